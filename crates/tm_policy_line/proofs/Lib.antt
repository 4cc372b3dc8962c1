mod LineExamples
mod PrintedExamples
pub mod DomainAgain
pub mod ManagerAgain
pub mod ExceptionAgain
pub mod PrintedWords
pub mod ReadLaws
pub mod TextLines
pub mod TextsAgain
pub use Rattle.tm_entry.proofs.LearnedLaws
pub use Rattle.tm_line.proofs.OkSteps
pub use Rattle.tm_entry.proofs.QuietLaws
pub use Rattle.tm_line.proofs.Steps
