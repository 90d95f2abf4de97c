-- The table that the code keeps says what the definitions of intervals say.
pub use Rattle.ppd_model.proofs.CountedOn
pub mod Lists
pub mod Rows
pub mod Tabled
pub mod Found
pub mod Passed
pub mod Fitting
pub mod Lent
pub mod Vocabulary
