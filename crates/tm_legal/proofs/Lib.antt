pub mod Laws
pub mod NoStep
pub mod Plays
pub mod Growth
pub mod Kept
pub mod Histories
mod Edits
pub mod Asked
pub mod Looked
pub mod Walks
pub mod Takes
pub mod Hears
pub mod Onward
pub mod Counts
mod Desks
pub mod Scripts
pub mod Players
pub mod Trees
pub mod TakeEvents
mod Others
mod DeskEvents
pub mod Legality
pub mod AllPlays
mod Stops
pub mod PlayLaws
pub mod Opened
pub mod Named
pub mod Loads
pub mod BareGrammar
pub mod Fitting
pub mod OwnTurns
pub mod NeedsLaws
