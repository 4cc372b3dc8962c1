mod Walking
pub mod RaisedLaws
pub mod TreeEvents
pub use Rattle.tm_grammar.proofs.IsOne
