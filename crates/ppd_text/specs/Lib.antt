-- The texts of numbers, of static tables and plans, and of items and edges.
pub mod Texts
pub mod Names
pub mod Kinds
pub mod Plans
pub mod Table
pub mod CellNames
pub mod Items
pub mod Edges
