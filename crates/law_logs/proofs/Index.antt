-- The index of the logs of a whole schedule is never refused, as a law.
pub mod Standing
pub mod Tested
pub mod Valued
pub mod OfKind
pub mod Marked
pub mod Started
pub mod Endings
pub mod Passing
pub mod Found
