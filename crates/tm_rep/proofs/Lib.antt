pub mod Executes
pub use Rattle.tm_grammar.proofs.IsOne
