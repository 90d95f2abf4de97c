-- What is answered for an item of a run with races.
pub mod Firsts
pub mod ByOrder
pub mod Answers
pub mod Runs
pub mod Missing
