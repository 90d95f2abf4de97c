-- What is written for a source, its run and the commands, what is answered to a question on a recording, and what a
-- call comes to.
pub mod Call
pub mod Clauses
pub mod Determined
pub mod Missing
pub mod OfRuns
pub mod Promises
pub mod Queries
pub mod QueryLaws
pub mod Ran
pub mod Replies
pub mod SlicesOfRuns
pub mod Top
pub mod VerdictTexts
