-- What is kept of activations goes on as they do.
pub mod Kept
pub mod Keeping
