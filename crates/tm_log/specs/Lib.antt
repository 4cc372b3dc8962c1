pub mod Reasons
pub mod Steps
pub mod Blocks
pub mod Execs
pub mod Headers
pub mod Records
pub mod Gathering
pub mod Logs
