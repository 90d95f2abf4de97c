-- The constants of an accepted source's program have 64 bits.
pub mod Coded
pub mod Phrases
pub mod Said
pub mod Statements
