pub mod Lists
pub mod Domains
pub mod ShortLists
pub mod Places
pub mod LearnLaws
pub mod MakeLaws
pub mod Kept
pub mod Standings
