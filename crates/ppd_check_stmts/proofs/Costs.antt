-- How much is written, and in how many steps, by the nodes of a source.
pub mod Children
pub mod Phrases
pub mod Rows
pub mod Tables
