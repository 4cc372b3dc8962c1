pub mod Loaded
pub mod Structured
pub mod Generated
pub use Rattle.tm_call_input.specs.declared.reading.Loaded as CallInputLoaded
pub use Rattle.tm_call_input.specs.declared.reading.Judging
pub use Rattle.tm_call_input.specs.Policies
pub use Rattle.tm_call_input.specs.Reading
