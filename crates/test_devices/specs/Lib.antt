-- What the devices in memory hold, and what their calls do.
pub mod Entries
pub mod Forms
