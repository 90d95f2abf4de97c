mod LineWords
mod Pasts
mod Split
mod Replying
pub mod Conversing
pub mod Told
pub mod StoredRuns
