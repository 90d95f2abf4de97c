-- Where intervals and synchronizations stand in a log, and places in edges.
pub mod Extended
pub mod Innermost
pub mod EdgePlaces
pub mod EdgeEnds
