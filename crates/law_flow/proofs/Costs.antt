-- What the search for flowback edges and last values replays is near to what is asked for and costs little, as laws.
pub mod Steps
pub mod Walks
pub mod Own
pub mod Words
pub mod Edges
pub mod EdgeCosts
pub mod LastCosts
