-- The full trace in code: what a schedule is of, what is kept while the trace is made, what is told of a schedule, the
-- pairs by their numbers, the steps taken, and the answers.
pub mod Leading
pub mod Runs
pub mod Settings
pub mod Spending
pub mod Subjects
pub mod Tagging
pub mod Telling
pub mod Traced
