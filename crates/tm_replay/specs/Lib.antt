pub mod Seats
pub mod Jobs
pub mod Beginnings
pub mod Replays
pub use Rattle.tm_machine.specs.Machine
pub use Rattle.tm_machine.specs.Office
pub use Rattle.tm_seat.specs.Parts
pub use Rattle.tm_seat.specs.declared.tree.PlayedTree
pub use Rattle.tm_seat.specs.Replayed
pub use Rattle.tm_seat.specs.Rows
pub use Rattle.tm_core.specs.Scenes
pub use Rattle.tm_seat.specs.Seats as SeatSeats
pub use Rattle.tm_machine.specs.Tomoyo
pub use Rattle.tm_machine.specs.Written
