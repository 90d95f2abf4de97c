-- That the search within a process finds the origins of its local cells and of what its functions returned: laws
-- alone.
pub mod Turns
pub mod Ends
pub mod Closes
pub mod Moments
pub mod Returned
pub mod NoLoops
pub mod Counts
pub mod Received
pub mod Once
pub mod InFrame
pub mod Reading
pub mod OpenSpans
pub mod Inside
pub mod Cells
pub mod Tells
pub mod Stepping
pub mod Places
pub mod Origins
pub mod EachStep
pub mod AtSteps
pub mod LocalReads
