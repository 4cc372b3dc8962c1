pub mod Reading
pub mod Printing
pub mod Written
pub use Rattle.tm_line.specs.Arguments
pub use Rattle.tm_entry.specs.Attributes
pub use Rattle.tm_entry.specs.Reading as CondReading
pub use Rattle.tm_entry.specs.Written as CondWritten
pub use Rattle.tm_line.specs.Domains
pub use Rattle.tm_entry.specs.Entries
pub use Rattle.tm_except.specs.Reading as ExceptReading
pub use Rattle.tm_except.specs.Written as ExceptWritten
pub use Rattle.tm_entry.specs.FileLines
pub use Rattle.tm_except.specs.Grammar
pub use Rattle.tm_line.specs.Printing as LinePrinting
pub use Rattle.tm_line.specs.Written as LineWritten
pub use Rattle.tm_line.specs.Lines
pub use Rattle.tm_line.specs.Names
pub use Rattle.tm_line.specs.Namespaces
pub use Rattle.tm_entry.specs.NetLines
pub use Rattle.tm_except.specs.PatternReading
pub use Rattle.tm_line.specs.Permissions
pub use Rattle.tm_entry.specs.Preferences
pub use Rattle.tm_except.specs.Tokens
