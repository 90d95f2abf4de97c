-- Where each interval of a process begins: its block with all that a replay takes of it, and that the
-- process and a replay at its block are beside each other.
pub mod Blocks
pub mod Opened
pub mod AtBlocks
pub mod Purses
pub mod Prelogged
pub mod Statics
pub mod Begun
pub mod Crossed
