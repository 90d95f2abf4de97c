-- What names mean, what a source and its bodies declare, and the rules for that.
pub mod Syntax
pub mod Reading
pub mod Fitted
pub mod Faults
pub mod Names
pub mod Nodes
pub mod Cost
pub mod Declaring
pub mod Holding
pub mod Items
pub mod Globals
pub mod Frames
