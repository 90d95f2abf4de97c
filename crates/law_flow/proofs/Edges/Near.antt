-- The intervals that searches replay are near.
pub mod Touched
pub mod Timed
pub mod Left
pub mod Nearby
pub mod Tree
pub mod Distinct
pub mod Cheap
