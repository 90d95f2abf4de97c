-- The intervals of a past, what the replay of one answers, and what events came from.
pub mod Origins
pub mod LinkedPasts
pub mod Costs
pub mod Intervals
pub mod Replays
pub mod IntervalCosts
