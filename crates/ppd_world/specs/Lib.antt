-- The world in code: what it is after a step, and the parts of a step.
pub mod Running
pub mod Parts
pub mod Starts
pub mod Plain
