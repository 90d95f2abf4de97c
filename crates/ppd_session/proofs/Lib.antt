-- Texts piece by piece, and that the logs of a run tell what the run does.
pub mod KnownWords
pub mod Positions
pub mod Lines
pub mod Static
pub mod Indexed
pub mod Tables
pub mod Honest
pub mod Replayed
pub mod Answered
pub mod Keeping
pub mod LastValues
mod LastKept
mod LastTables
pub mod Flows
pub mod Missing
pub mod Knowing
