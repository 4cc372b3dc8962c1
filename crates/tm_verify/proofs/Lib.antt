pub mod AskedLaws
pub mod PassLaws
pub mod SeenLaws
pub mod VerifiedLaws
