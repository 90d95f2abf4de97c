-- The searches within a process.
pub mod Lists
pub mod Items
pub mod Scans
pub mod Locals
pub mod Near
pub mod Outer
pub mod Reads
pub mod Parts
