pub mod First
pub mod Desk
pub mod Placed
pub mod Broken
pub mod Scans
pub mod Looks
