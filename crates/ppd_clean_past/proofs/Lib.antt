-- The number of a last edge.
pub mod LastEdges
