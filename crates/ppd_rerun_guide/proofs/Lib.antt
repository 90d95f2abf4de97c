-- The guided schedule of a record without a race comes to the same as the schedule that was recorded.
pub mod Guides
pub mod MostSteps
pub mod Following
pub mod Ending
pub mod Taking
pub mod Lines
pub mod Guided
pub mod Verdicts
