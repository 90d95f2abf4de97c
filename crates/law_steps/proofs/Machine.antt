-- Processes that take turns: an abstract machine, and that its runs with one record and no race come to the same.
pub mod Model
pub mod Runs
pub mod Cut
pub mod Meeting
