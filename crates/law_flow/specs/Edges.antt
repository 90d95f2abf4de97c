-- Shared reads and last values: what the search finds is what the run did.
pub mod SharedEdges
pub mod Assembled
pub mod Within
pub mod Near
