pub mod Costs
pub mod Listing
pub mod Roots
pub mod Trees
