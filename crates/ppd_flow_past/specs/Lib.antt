-- What is kept of a run, and what replays of its intervals give.
pub use Rattle.ppd_emul.specs.Laws
pub mod PastSetting
pub mod Held
pub mod SeenBy
pub mod Pasts
pub mod ByReplays
pub mod Keeping
pub mod Honest
pub mod Edges
