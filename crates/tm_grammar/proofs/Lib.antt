pub mod ReadRules
pub mod QuietLines
pub mod IsOne
mod Examples
