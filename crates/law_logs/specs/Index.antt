-- The logs of a run have an index.
pub mod Accepted
