pub mod Buckets
pub mod Places
pub mod Names
pub mod Stems
pub mod Labels
pub mod Listing
pub mod Index
pub mod Groups
