-- What the fields of a recording may hold.
pub mod Fields
