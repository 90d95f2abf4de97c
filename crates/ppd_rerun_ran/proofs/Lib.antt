pub mod HeldItems
pub mod Items
pub mod Runs
