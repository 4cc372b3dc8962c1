pub mod Firsts
pub mod WayLaws
pub mod VerdictLaws
