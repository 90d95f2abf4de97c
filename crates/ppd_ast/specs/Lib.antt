-- Expressions of the table as trees, and which programs and plans are valid.
pub mod Bare
pub mod Cells
pub mod Counting
pub mod Digits
pub mod Lookups
pub mod Members
pub mod Numbered
pub mod Order
pub mod Table
pub mod Tally
pub mod Term
pub mod Uses
pub mod Valid
pub mod ValidPlan
