-- The first fault of a source, and the lines that say why a source or a recording is refused.
pub mod Stages
pub mod Sources
pub mod Recordings
