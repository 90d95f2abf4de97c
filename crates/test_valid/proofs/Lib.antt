pub mod Beginnings
pub mod Compared
pub mod Countings
pub mod Following
pub mod Tallies
