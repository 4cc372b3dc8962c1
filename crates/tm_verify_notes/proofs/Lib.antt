pub mod CaseLaws
pub mod EachLaws
pub mod NoteLaws
pub mod SumLaws
