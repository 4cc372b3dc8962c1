pub mod ChangedLaws
pub mod CountLaws
pub mod LineLaws
pub mod PlaceLaws
pub mod HeightLaws
pub mod ActLaws
pub mod OwnLaws
pub mod ClauseLaws
