-- What is answered for an item of a run with races.
pub mod Ranges
pub mod FirstEdges
pub mod There
pub mod Orders
pub mod LeftEdges
pub mod WantedEdges
pub mod Found
pub mod FoundEdges
pub mod Answered
pub mod NeverFails
pub mod OfRuns
pub mod Missing
