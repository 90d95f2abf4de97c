pub mod Seen
pub mod Itself
pub mod Running
pub mod Steps
pub mod Whole
