pub mod RunWords
pub mod ToldRuns
