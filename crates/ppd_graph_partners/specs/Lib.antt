-- What leads to a synchronization by its number.
pub mod Wanted
