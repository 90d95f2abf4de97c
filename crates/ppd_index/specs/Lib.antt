-- The intervals of logs, and which logs have none.
pub mod Tables
pub mod Refusals
pub mod Indexes
pub mod Fitting
pub mod Spending
