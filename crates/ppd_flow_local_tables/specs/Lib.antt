-- Tables of the items of one interval.
pub mod Built
pub mod Kept
pub mod Rows
pub mod Tables
