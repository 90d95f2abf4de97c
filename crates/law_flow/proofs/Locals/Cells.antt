-- What an item more tells of the cells of activations.
pub mod Spots
pub mod Writes
pub mod Postlogs
pub mod Events
pub mod Intervals
