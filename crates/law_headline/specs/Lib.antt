-- The headline by its own words.
pub mod Answered
pub mod Headline
pub mod OfRuns
pub mod Replayed
pub mod Runs
pub mod Unordered
