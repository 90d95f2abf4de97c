-- The searches for origins within one process, in code.
pub use Rattle.ppd_flow_edges.specs.Asked
pub mod Scans
pub mod Searches
