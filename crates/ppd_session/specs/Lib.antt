-- What command lines ask, and what is answered.
pub use Rattle.ppd_flow_past.specs.Pasts
pub use Rattle.ppd_flow.specs.Answers
pub use Rattle.ppd_flow.specs.Runs
pub mod Questions
pub mod Known
pub mod Texts
pub mod Rows
pub mod Keeping
pub mod LastTables
pub mod Sessions
pub mod Laws
pub mod Missing
pub mod Knowing
