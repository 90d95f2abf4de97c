pub use Rattle.law_steps.proofs.StaticEdges.SharedCells.Writers
pub mod Edges
pub mod Costs
pub mod Places
pub mod Control
pub mod Locals
pub mod Loops
pub mod Vocabulary
mod EdgeEvents
mod RecordedWrites
pub mod MissingWrites
pub mod Deeds
pub mod Fitting
pub mod Followed
pub mod Joining
pub mod Marks
pub mod SharedWriters
pub mod PairTags
pub mod WholeTrace
