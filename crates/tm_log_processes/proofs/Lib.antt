pub mod Firsts
pub mod TreeLaws
