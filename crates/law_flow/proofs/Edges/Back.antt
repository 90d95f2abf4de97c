-- The walk back over items as one over events.
pub mod Walks
pub mod Walked
