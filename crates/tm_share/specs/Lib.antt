pub mod Weights
pub mod Tallies
pub mod Deques
pub mod Hands
pub mod Pools
pub mod Forests
