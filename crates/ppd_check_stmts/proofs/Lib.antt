pub mod Costs
pub mod Rows
pub mod Table
pub mod Vocabulary
