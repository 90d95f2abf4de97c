-- Rules, one constructor each.
pub mod Needs
pub mod Replays
pub mod Near
pub mod Bytes
pub mod Missing
