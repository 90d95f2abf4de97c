-- The statements of a source without and with numbers, the rules that they break, and the table that they become.
pub mod Expressions
pub mod Code
pub mod Statements
pub mod Table
pub mod Forms
pub mod Values
pub mod Writing
pub mod Plain
pub mod Elements
