pub mod Tests
pub mod Outcomes
pub mod Places
pub mod MapLaws
pub mod Effects
pub mod Exceptions
pub mod GroupLaws
