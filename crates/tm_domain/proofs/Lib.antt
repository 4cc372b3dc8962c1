pub mod NameLaws
pub use Rattle.tm_pattern.proofs.GrammarLaws
pub use Rattle.tm_pattern.proofs.LexLaws
pub use Rattle.tm_pattern.proofs.LiteralLaws
pub use Rattle.tm_pattern.proofs.RightLaws
