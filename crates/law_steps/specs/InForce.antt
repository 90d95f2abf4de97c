-- The shared values in force for a process, and that its reads are answered by them.
pub mod Values
