-- What events write.
pub mod Tags
pub mod Writes
