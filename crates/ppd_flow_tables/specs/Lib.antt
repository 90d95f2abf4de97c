-- Tables of the internal edges of a process and of the places of an interval.
pub use Rattle.ppd_flow_past.specs.ByReplays
pub use Rattle.ppd_flow_past.specs.Pasts
pub use Rattle.ppd_flow_past.specs.SeenBy
pub use Rattle.ppd_flow_past.specs.declared.past.Past
pub use Rattle.ppd_model.specs.declared.flow_error.FlowError
pub mod Listed
pub mod Stops
pub mod Tables
pub mod Counts
pub mod Writing
pub mod Tabled
pub mod LatestEdges
