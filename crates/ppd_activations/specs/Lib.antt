-- What is kept of the activations of a process.
pub mod Runs
