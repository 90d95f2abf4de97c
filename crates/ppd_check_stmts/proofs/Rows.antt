-- Rows of statements.
pub mod Declaring
pub mod Inside
pub mod Nested
pub mod Semicolons
pub mod Steps
pub mod Walking
pub mod Whole
pub mod Worded
