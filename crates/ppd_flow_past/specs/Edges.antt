-- What is found of internal edges in the index and the graph of a past.
pub mod Found
