-- The walk back from where an edge ends.
pub mod Counts
pub mod Written
