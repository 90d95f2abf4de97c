-- Pasts with races.
pub mod ByOrder
