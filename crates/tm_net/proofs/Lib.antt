pub mod NetLaws
pub mod NetText
pub mod NetRest
mod NetExamples
