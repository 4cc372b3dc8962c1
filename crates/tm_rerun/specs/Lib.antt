pub mod Summary
pub mod Rerun
pub mod Same
