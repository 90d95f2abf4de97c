-- What the proofs speak of: definitions that no contract cites.
pub mod Events
pub mod LoopTells
pub mod Says
pub mod Levels
pub mod Whole
