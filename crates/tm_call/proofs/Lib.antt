pub mod Steps
pub mod Carried
pub mod Told
pub mod Others
pub mod Calls
pub mod Taken
