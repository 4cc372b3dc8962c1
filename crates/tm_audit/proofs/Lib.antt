pub mod Texts
pub mod AuditLaws
mod Examples
pub mod PrintsSo
pub use Rattle.tm_grammar.proofs.IsOne
