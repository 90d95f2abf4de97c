-- The control edges of a process's items are found within the process.
pub mod Found
