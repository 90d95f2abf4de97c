-- Where an item of a process stands: the intervals that run at its step, and the activation that goes on, as the
-- items before it tell; laws alone.
pub mod Levels
pub mod Later
pub mod Opened
pub mod Calling
pub mod Moves
pub mod Scans
pub mod Begins
pub mod Whole
pub mod Opening
pub mod Steps
pub mod NoLeaf
pub mod Telling
pub mod Told
pub mod Following
pub mod Frames
pub mod LeafTells
