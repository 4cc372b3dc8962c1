pub use Rattle.tm_change_domains.specs.Standing
pub use Rattle.tm_grammar.specs.Tomoyo
pub use Rattle.tm_grammar.specs.Written
