pub mod Reading
pub mod Printing
pub mod Written
pub use Rattle.tm_pattern.specs.Grammar
pub use Rattle.tm_pattern.specs.Reading as PatternReading
pub use Rattle.tm_pattern.specs.Tokens
