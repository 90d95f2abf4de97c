pub mod Costs
pub mod Counted
pub mod Declarations
pub mod Parameters
pub mod Walks
