-- What the words ask for.
pub mod Questions
pub mod Words
-- the words of a command as clap reads them
pub mod GivenWords
pub mod Spelling
pub mod Commands
pub mod Reads
pub mod Shape
pub mod Tested
pub mod Numbers
pub mod Laws
