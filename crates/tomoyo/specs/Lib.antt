pub mod Print
pub mod Sort
pub mod Verify
pub mod Play
pub mod Rerun
pub mod Call
pub mod Closures
