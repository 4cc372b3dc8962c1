pub mod Scenes
pub use Rattle.tm_grammar.specs.Tomoyo
