-- The logs of a whole run are lawful for its recording: laws.
pub mod Constants
pub mod Fit
pub mod Logs
pub mod Terms
pub mod Values
pub mod Whole
