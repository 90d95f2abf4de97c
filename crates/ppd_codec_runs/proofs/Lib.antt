pub use Rattle.ppd_session.proofs.Honest
pub use Rattle.ppd_session.proofs.Keeping
pub use Rattle.law_logs.proofs.Graph.Ordered
pub use Rattle.law_logs.proofs.Index.Found
pub mod Cells
pub mod Same
pub mod Runs
