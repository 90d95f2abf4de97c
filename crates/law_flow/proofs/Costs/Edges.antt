-- The replays for the edges of an item, by their kinds.
pub mod Answers
pub mod Shared
pub mod Items
