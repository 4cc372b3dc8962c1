pub mod Candidates
pub mod Known
pub mod Literals
pub mod Looked
pub mod Kinds
pub mod Gone
pub mod Groups
pub use Rattle.tm_policy.specs.Counts
