-- That the search by levels finds the slice, and that there is one.
pub mod Levels
pub mod Slices
pub mod Closed
mod There
