-- The intervals of a whole schedule's story have the items and the steps that are to come, as a law.
pub mod Grown
pub mod SpanSteps
pub mod SpanBody
pub mod SpanEnd
pub mod SpanGoals
pub mod SpanMarks
pub mod SpanComes
pub mod SpansComing
