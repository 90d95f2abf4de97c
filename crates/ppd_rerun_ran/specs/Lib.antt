-- What a guided run comes to, with the intervals of its processes as it goes on.
pub mod Holding
pub mod Seeing
pub mod Runs
