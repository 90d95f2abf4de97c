-- The replay of an interval beside its own process gives what is to come in the interval.
pub mod Events
pub mod Turns
pub mod Goals
pub mod Moved
pub mod Own
pub mod Synchronized
pub mod Last
pub mod Inside
pub mod Both
