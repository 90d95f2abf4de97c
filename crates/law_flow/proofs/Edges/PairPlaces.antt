-- The pairs of synchronizations.
pub mod PairKinds
pub mod Leading
pub mod Pairs
