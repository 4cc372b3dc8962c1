pub mod Made
pub mod Domains
pub mod Lasting
pub mod Refusals
