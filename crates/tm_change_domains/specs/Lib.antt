pub mod Kept
pub mod Properties
pub mod Standing
