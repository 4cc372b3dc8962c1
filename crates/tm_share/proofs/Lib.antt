pub mod Weights
pub mod Balance
pub mod Hands
pub mod Drains
pub mod Pools
pub mod Once
pub mod Moves
