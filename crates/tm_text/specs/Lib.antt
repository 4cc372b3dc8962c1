pub mod DomainText
pub mod ManagerText
pub mod Order
pub mod ProfileText
pub mod ExceptionText
pub mod PermissionWords
