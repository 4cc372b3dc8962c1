pub mod Steps
pub mod Lines
pub mod Edits
pub mod Answers
pub mod Schedule
pub mod Written
