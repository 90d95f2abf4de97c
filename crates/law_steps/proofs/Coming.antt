-- What is to come in each interval of a run: the log of the interval and the story have just that.
pub mod Indexes
pub mod IndexSteps
pub mod Shapes
pub mod Later
pub mod UnitSteps
pub mod OpeningSteps
pub mod ClosingSteps
pub mod PassingSteps
pub mod StoppingSteps
pub mod LaterSteps
pub mod LogsNested
pub mod Stacked
pub mod Depths
pub mod DeepOpenings
pub mod LogsComing
pub mod Late
