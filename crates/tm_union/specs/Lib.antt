pub use Rattle.tm_pattern.specs.Grammar
pub use Rattle.tm_pattern.specs.Reading
pub use Rattle.tm_pattern.specs.Tokens
