pub mod PolicyLaws
pub mod Readings
pub mod Refusals
