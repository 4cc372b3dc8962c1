pub mod Leading
pub mod Bare
