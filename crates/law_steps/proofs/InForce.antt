-- In a schedule without a race a process's reads are answered by the values in force, as a law.
pub mod Values
pub mod Raced
pub mod Fresh
pub mod Stands
pub mod Answered
