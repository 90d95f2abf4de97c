pub mod Requested
pub mod Clap
pub mod Uses
pub mod Late
pub mod Numbers
pub mod Fit
