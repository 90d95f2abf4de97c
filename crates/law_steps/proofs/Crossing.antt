-- A process that runs in a nested block which its replay goes past, as lemmas.
pub mod Within
pub mod InBlock
pub mod Advance
pub mod Loops
pub mod Leaves
pub mod LoopLeft
pub mod LoopBegins
pub mod Overs
pub mod Calls
pub mod CallLeft
pub mod CallBegins
pub mod Whole
