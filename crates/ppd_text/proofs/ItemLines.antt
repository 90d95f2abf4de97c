-- Texts piece by piece.
pub mod Holding
pub mod Lines
