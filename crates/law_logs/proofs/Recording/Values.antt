-- All values of a run have 64 bits, where its constants have.
pub mod Asked
pub mod Asking
pub mod Kept
pub mod Worlds
