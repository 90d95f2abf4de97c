-- What a run by a schedule that is handed in comes to.
pub mod Following
pub mod Kept
