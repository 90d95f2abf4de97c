-- What the search finds for shared reads and last values of cells is what the run did, as laws.
pub mod Spans
pub mod LogPlaces
pub mod Back
pub mod StepEvents
pub mod Sources
pub mod PairPlaces
pub mod PartItems
pub mod Assembled
pub mod Within
pub mod Near
