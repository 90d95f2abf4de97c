-- The names of an accepted source mean what is there, and its bodies name only that.
pub mod Accepted
pub mod Acts
pub mod Cells
pub mod Counts
pub mod Frames
pub mod Items
pub mod Limits
pub mod Rightly
pub mod Rows
pub mod Sources
pub mod Steps
pub mod Terms
pub mod Trees
