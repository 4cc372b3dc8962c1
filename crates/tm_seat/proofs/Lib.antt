pub mod Opening
mod Claiming
mod TakeEvents
mod TreeEvents
mod EditEvents
pub mod Rising
mod Hands
mod Queues
pub mod Lists
pub mod Each
pub mod Plans
pub mod Moving
pub mod Shares
mod TreePasses
mod PartsClaim
mod Gathered
mod Jointly
pub mod Working
pub mod WorkerEvents
pub use Rattle.tm_joint.proofs.Gathering
