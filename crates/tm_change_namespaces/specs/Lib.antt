pub mod Named
pub mod Effects
pub mod Pairs
pub mod AclGroups
