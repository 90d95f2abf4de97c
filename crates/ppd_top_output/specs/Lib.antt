-- Texts that are written.
pub mod Finishing
