-- Where a process stands in its intervals, and which activation goes on there.
pub mod Levels
pub mod Closing
pub mod Leaves
