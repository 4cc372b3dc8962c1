pub mod Examples
mod RowsOfParts
mod RowsOfVerdicts
mod RowsOfRuns
mod RowsOfBoot
mod RowsOfMoves
mod RowsOfScriptFaults
mod RowsOfTraceFaults
mod RowsOfLineFaults
mod RowsOfLineReplies
mod RowsOfLongNames
pub mod Playable
