pub mod ReadSteps
pub mod ReadLaws
pub mod CountLaws
pub mod FaultLaws
mod ScriptExamples
