pub mod ListLaws
pub mod EntryLists
pub mod NamespaceLaws
pub mod LineKeeps
mod ListExamples
pub mod Folding
pub mod Spaces
pub mod ProfilesLoad
pub mod ExceptionsLoad
pub mod DomainsLoad
pub mod ManagersLoad
pub mod StepKeeps
pub mod TextsBack
pub mod Versions
mod BackExamples
