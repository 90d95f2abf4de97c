-- The sources that drills run.
pub mod Drills
pub mod Drilled
