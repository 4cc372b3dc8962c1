mod Owning
mod Same
mod Laying
mod Walking
mod Raising
mod RowSteps
pub mod Stealing
mod Counting
mod Gathered
mod Jointly
mod RecordLaws
