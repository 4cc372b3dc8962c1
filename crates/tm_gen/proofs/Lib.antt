pub mod DrawLaws
pub mod Examples
pub mod TraceLaws
