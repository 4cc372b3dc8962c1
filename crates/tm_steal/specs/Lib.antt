pub mod Boards
pub use Rattle.tm_replay.specs.Machine
