mod Passes
mod Courses
mod Beginning
mod Given
mod Ending
mod Playing
mod Whole
pub use Rattle.tm_machine.proofs.Offices
