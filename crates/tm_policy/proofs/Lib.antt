pub mod LearnLaws
pub mod Executes
pub mod Lists
pub mod Finds
pub mod FewLaws
pub mod CountLaws
pub mod FileLaws
pub mod LoadLaws
