pub mod Status
pub mod Words
pub mod Fetches
pub mod Stores
pub mod Calls
pub mod Ends
