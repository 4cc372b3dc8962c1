pub mod Policies
pub mod Reading
pub use Rattle.tm_core.specs.Reading as PolicyLineReading
pub use Rattle.tm_core.specs.Tomoyo
