-- The processes of a program as such a machine.
pub mod Wants
pub mod Sorted
pub mod Lawful
pub mod Given
pub mod Effects
