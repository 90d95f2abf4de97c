pub mod First
pub mod Lookup
pub mod Outcomes
