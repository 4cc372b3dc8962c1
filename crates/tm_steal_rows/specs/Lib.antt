pub mod Playing
pub mod Gathering
pub mod Stolen
pub mod Records
