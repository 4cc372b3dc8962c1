pub mod Given
pub mod Cases
pub mod Noting
pub mod Sums
pub mod Stepping
pub use Rattle.tm_take.specs.Tomoyo
