-- The logs of a run have a graph.
pub mod Accepted
