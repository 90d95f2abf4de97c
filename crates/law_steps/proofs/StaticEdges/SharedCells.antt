-- The writer of a shared cell that is read is an event that writes the cell.
pub mod Asking
pub mod Writers
pub mod Telling
pub mod Aligned
pub mod Writing
pub mod SharedReads
