-- The logs of a run are lawful so far, step by step.
pub mod Counts
pub mod Entries
pub mod Numbers
pub mod Rows
pub mod Run
pub mod Sizes
pub mod Steps
