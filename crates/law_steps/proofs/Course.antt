-- What a process has to do lies along the flow graph of its program.
pub mod Rising
pub mod Standing
pub mod Chains
pub mod Outward
pub mod Successors
pub mod Ways
pub mod Frames
pub mod Deeds
pub mod Steps
pub mod Leading
pub mod Beginning
pub mod Reading
pub mod Ending
pub mod Last
