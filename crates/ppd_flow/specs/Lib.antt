-- What the flowback edges of an item and the last value of a cell are, by replays alone.
pub use Rattle.ppd_model.specs.NearIntervals
pub use Rattle.ppd_flow_shared.specs.SharedCells
pub use Rattle.ppd_flow_shared.specs.Tabled
pub use Rattle.law_flow.specs.Edges.SharedEdges
pub mod Answers
pub mod Far
pub mod Runs
pub mod Missing
