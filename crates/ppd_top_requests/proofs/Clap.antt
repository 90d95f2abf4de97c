-- What clap makes of the words of such a command.
pub mod Kinds
pub mod Taken
pub mod Lookups
pub mod Rows
pub mod Walking
pub mod Whole
pub mod Spelled
