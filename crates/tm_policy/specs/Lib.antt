pub mod Searching
pub mod FewTests
pub mod Loading
pub mod Counts
pub use Rattle.tm_rep.specs.Tomoyo
