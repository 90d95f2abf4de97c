-- The logs of a whole run are lawful for its recording.
pub mod Values
pub mod Constants
pub mod Lawful
