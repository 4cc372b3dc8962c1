pub mod Answering
pub mod Turns
pub mod Did
