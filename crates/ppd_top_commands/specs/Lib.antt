-- What is written of a run and of command lines, and what the commands come to.
pub mod Output
pub mod Asking
pub mod Debugging
pub mod Summary
pub mod Commands
