-- Semaphores and channels as a step finds them.
pub mod Objects
pub mod Entries
