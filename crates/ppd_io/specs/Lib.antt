-- Counts of faults, what readers, writers and shelves hold, and what the steady source gives.
pub mod Causes
pub mod Content
pub mod Feeds
pub mod Lines
