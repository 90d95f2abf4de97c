-- The successors of statements, flow paths, and what a list of starts leads to; sets of cells, and the variables that a
-- body or a loop may read and write.
pub mod CellSets
pub mod Named
pub mod Used
pub mod Gained
pub mod SetsOf
pub mod Laws
pub mod Lists
pub mod Reach
pub mod Flow
pub mod Cfgs
pub mod WorkList
pub mod FlowLaws
