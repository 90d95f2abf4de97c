-- What is added to the table.
pub mod Arguments
pub mod Flat
pub mod Joined
pub mod Through
pub mod Writing
