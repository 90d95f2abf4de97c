pub use Rattle.law_flow.proofs.Loops.OwnParts
pub use Rattle.ppd_flow_shared.proofs.SharedFound
pub use Rattle.law_flow.proofs.Edges.Assembled
pub use Rattle.law_flow.proofs.Edges.Sources.LastOrigins
mod Answered
mod Costing
mod Events
pub mod FarProcesses
mod ItemEdges
pub mod Missing
pub mod OfRuns
mod ReadEdges
mod Seens
