pub use Rattle.tm_pattern.proofs.LiteralLaws
