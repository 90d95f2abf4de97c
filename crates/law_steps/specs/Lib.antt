-- Where the steps of a process lead, what they read, and what they cost; what two schedules that agree have in common;
-- and what it is to go past a block without running it.
pub mod Course
pub mod Steps
pub mod Units
pub mod Policies
pub mod OpenBlocks
pub use Rattle.ppd_blocks.specs.Blocks
pub mod Sound
pub mod Agreeing
pub mod Beside
pub mod InForce
pub mod Coming
pub mod Theorem
pub mod Skips
