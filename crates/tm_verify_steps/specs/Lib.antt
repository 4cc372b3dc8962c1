pub mod Counting
pub mod Lines
pub mod Heights
pub mod Acting
pub mod Clauses
