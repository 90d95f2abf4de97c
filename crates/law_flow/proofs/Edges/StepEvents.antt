-- The events of a process by its steps, and these in a schedule.
pub mod Writes
pub mod Marks
pub mod Timeline
pub mod ReadTags
pub mod Processes
pub mod ReadSteps
pub mod Writers
