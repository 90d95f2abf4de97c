-- The steps of each process of a run, and the blocks that are open at each of them, as laws.
pub mod Told
pub mod Runs
pub mod Planned
pub mod Framed
pub mod DeedKinds
pub mod Opened
pub mod Moving
pub mod Depths
pub mod Stacks
