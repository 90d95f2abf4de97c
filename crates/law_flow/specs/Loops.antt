-- What the search within a process finds of local cells, in loops and after them.
pub mod LoopsLeft
pub mod AllOwnParts
