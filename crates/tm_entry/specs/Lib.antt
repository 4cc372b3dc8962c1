pub mod Entries
pub use Rattle.tm_cond.specs.Attributes
pub use Rattle.tm_file.specs.FileLines
pub use Rattle.tm_net.specs.NetLines
pub use Rattle.tm_file.specs.Preferences
pub use Rattle.tm_cond.specs.Reading
pub use Rattle.tm_cond.specs.Written
