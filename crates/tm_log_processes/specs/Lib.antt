pub mod Processes
pub mod Domains
pub mod Lists
pub mod Places
pub mod Forests
