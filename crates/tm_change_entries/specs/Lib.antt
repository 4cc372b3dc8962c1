pub use Rattle.tm_learn.specs.Counting
