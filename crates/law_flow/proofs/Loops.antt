-- That the search within a process finds the origins of all its local reads, in loops and after them too, and of what
-- its loops left, and so all edges within the process: laws alone.
pub mod InFrame
pub mod JustLeft
pub mod Leaves
pub mod LoopsLeft
pub mod OwnParts
