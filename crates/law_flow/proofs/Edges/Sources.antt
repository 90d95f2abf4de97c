-- The edges that write a cell, and where a value came from.
pub mod Members
pub mod Greatest
pub mod Writing
pub mod InEdges
pub mod LastOrigins
pub mod ReadOrigins
