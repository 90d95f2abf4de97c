pub mod Declared
pub mod Found
pub mod Table
pub mod Words
