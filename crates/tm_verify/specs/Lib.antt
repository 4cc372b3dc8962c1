pub mod Asking
pub mod Passing
pub mod Seeing
pub mod Verified
pub use Rattle.tm_indexed.specs.Counts
pub use Rattle.tm_core.specs.Players
pub use Rattle.tm_core.specs.Scenes
