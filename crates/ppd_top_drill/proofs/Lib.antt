-- Texts line by line, and the sources of drills, read.
pub mod Checked
pub mod Derivations
pub mod Limited
pub mod Lines
pub mod Numbers
pub mod Pipelines
pub mod Read
pub mod Short
pub mod Spelled
pub mod TokenLines
pub mod Trees
