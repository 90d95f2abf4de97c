-- A process after some of its steps, and where its edges end.
pub mod Lasting
pub mod Open
pub mod Moments
pub mod Prefixes
pub mod Entries
pub mod Ends
