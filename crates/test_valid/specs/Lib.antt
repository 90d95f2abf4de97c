-- Lists that count up, lists that are compared piece by piece, and marks of numbers.
pub mod Begins
pub mod Counting
pub mod Tally
