-- The races with the edges of later processes, as they are found.
pub use Rattle.ppd_graph.specs.declared.sets.EdgeSets
pub use Rattle.ppd_graph.specs.declared.sync_graph.SyncGraph
pub use Rattle.ppd_graph.specs.Graphs
pub use Rattle.ppd_graph.specs.LogEdges
pub use Rattle.ppd_graph.specs.LogRecord
pub mod Lists
pub mod Search
