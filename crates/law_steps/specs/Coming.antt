-- What is to come in an interval, and that the logs and the story of a schedule have just that.
pub mod Pieces
pub mod Openings
