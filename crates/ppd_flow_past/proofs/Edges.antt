-- Internal edges of a past: the edge of a place, the place where an edge ends, and the greatest edge that writes a
-- cell.
pub mod Counted
pub mod Standing
pub mod Before
pub mod WritingEdges
