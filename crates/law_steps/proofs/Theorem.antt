-- The theorem of replays: the log of one interval alone gives exactly what happened in it.
pub mod Units
pub mod Processes
pub mod Begins
pub mod Whole
pub mod Emulated
pub mod Replays
