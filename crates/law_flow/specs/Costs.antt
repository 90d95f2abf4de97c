-- What the replays for an item's edges cost.
pub mod Bounds
