-- What holds of the blocks of a plan and of every state of a run of a valid program: what the replay
-- of an interval takes of its program and of its process.
pub mod Within
pub mod Keeping
pub mod Placed
pub mod BlockOpens
pub mod Named
pub mod Entered
pub mod Called
pub mod Sized
pub mod Bodies
pub mod Loops
pub mod Counted
pub mod State
pub mod Ended
pub mod Fine
pub mod BlockKinds
pub mod BodyBlocks
