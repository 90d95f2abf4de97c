-- The schedules of a program as runs of its machine.
pub mod Steps
pub mod Records
pub mod Orders
