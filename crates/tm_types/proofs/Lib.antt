pub mod Literals
pub mod Names
pub use Rattle.tm_number.proofs.Literals as WordLiterals
