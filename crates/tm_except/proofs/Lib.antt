pub mod RuleLaws
pub mod FoundLaws
pub mod NamespaceWords
pub mod PrintedWords
pub mod KeptWords
mod LineExamples
