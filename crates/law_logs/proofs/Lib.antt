pub mod Index
pub mod Graph
pub mod Recording
