-- The statements from which a value or control may come.
pub mod Named
pub mod Edges
pub mod Rows
pub mod Tables
pub mod Laws
