pub mod Examples
pub mod LentLaws
pub mod OrderLaws
pub mod SlotExamples
mod PermissionLaws
