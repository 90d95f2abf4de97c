mod Controls
pub mod Joined
pub mod Lefts
mod Loops
mod Nested
mod Places
mod Rounds
mod Scanned
