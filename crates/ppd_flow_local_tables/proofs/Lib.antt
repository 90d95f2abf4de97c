-- Lemmas on tables of an interval's items.
pub mod Additions
pub mod Growth
pub mod Noted
pub mod RowLemmas
pub mod Steps
