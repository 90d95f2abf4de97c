-- The graph of the logs of a whole schedule is never refused, as a law.
pub mod Offered
pub mod Direct
pub mod Earlier
pub mod Flat
pub mod Once
pub mod Numbers
pub mod Complete
pub mod Standing
pub mod Lacking
pub mod Ordered
