-- A run that came to its end, and what is written of how its processes ended.
pub mod Ends
pub mod Runs
