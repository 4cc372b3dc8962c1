pub mod TextLaws
pub mod EntryLaws
pub mod EntryText
pub mod WrittenLaws
pub mod LiteralLaws
pub mod LearnedLaws
pub mod QuietLaws
mod Examples
pub use Rattle.tm_file.proofs.FileText
pub use Rattle.tm_cond.proofs.LeftLaws
pub use Rattle.tm_net.proofs.NetText
pub use Rattle.tm_cond.proofs.PieceLaws
