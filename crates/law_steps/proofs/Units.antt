-- The cells of the unit in force hold what is read.
pub mod Listed
pub mod Numbers
pub mod Needs
pub mod InForce
pub mod Reading
pub mod Logged
