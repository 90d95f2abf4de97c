-- The guided schedule of a record, what a controlled re-execution answers, and the guided run in code.
pub mod Guides
pub mod Guided
pub mod Verdicts
pub mod Laws
