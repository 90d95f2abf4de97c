-- What the proofs speak of: definitions that no contract cites.
pub mod Across
pub mod Alone
pub mod Calls
pub mod Fine
pub mod Held
pub mod Over
pub mod Relation
pub mod Nested
