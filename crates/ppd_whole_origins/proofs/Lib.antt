-- The intervals of all processes.
pub mod Intervals
