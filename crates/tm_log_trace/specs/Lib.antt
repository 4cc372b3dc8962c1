pub mod Making
pub mod Made
pub mod Faults
