-- What the tables hold, and what is found in them.
pub use Rattle.ppd_flow_past.proofs.Found
pub use Rattle.ppd_flow_past.proofs.Parents
pub mod Sought
pub mod Collected
pub mod Marked
pub mod First
pub mod EdgePlaces
pub mod Passed
pub mod Painted
pub mod OfPast
pub mod Cut
pub mod Growing
pub mod Latest
pub mod Listed
mod Passing
pub mod Tabled
pub mod LatestBelow
pub mod LatestEdges
