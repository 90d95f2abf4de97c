-- The races of a graph.
pub use Rattle.ppd_race_found.specs.Graphs
pub use Rattle.ppd_race_found.specs.SyncGraph
pub use Rattle.ppd_race_found.specs.EdgeSets
pub use Rattle.ppd_race_found.specs.LogRecord
pub mod Races
pub mod Busy
pub mod ByCell
pub mod Spending
pub mod Union
