pub mod Policies
pub mod PolicyText
