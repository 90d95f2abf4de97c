-- Edges of items as they are joined, and the items among which one is asked for.
pub mod Asked
pub mod Joined
