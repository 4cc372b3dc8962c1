pub mod Lines
pub mod Permissions
pub mod Arguments
pub mod Domains
pub mod Printing
pub mod Written
pub mod DomainWords
pub mod Namespaces
pub use Rattle.tm_addr.specs.Printing as AddrPrinting
pub use Rattle.tm_addr.specs.Reading as AddrReading
pub use Rattle.tm_domain.specs.Grammar
pub use Rattle.tm_domain.specs.Names
pub use Rattle.tm_domain.specs.Reading
pub use Rattle.tm_domain.specs.Tokens
