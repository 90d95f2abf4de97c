-- What slices are, and what a search of one finds.
pub mod Reach
pub mod Levels
pub mod OfRuns
pub mod Laws
pub mod Searched
