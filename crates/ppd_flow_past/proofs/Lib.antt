pub use Rattle.ppd_emul.proofs.Replays
pub mod SeenWords
pub mod Lists
pub mod Rounds
pub mod Runs
pub mod Parents
pub mod Outward
pub mod Found
mod Given
pub mod Keeping
pub mod Edges
