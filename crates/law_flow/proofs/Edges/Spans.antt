-- The intervals of a process, with its events and its log.
pub mod Tiles
pub mod Facts
pub mod Told
pub mod Parted
pub mod Opened
pub mod Steps
pub mod Kept
