pub mod Steps
pub mod Ends
pub mod Courses
pub mod Fitting
pub mod Leaving
pub mod Offices
pub use Rattle.tm_rep.proofs.IsOne
