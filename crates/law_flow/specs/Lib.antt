-- What the searches for flowback edges find; and the events of the items of all intervals, joined, with what each came
-- from, by one pass over the events of each process.
pub mod Edges
pub mod Costs
pub mod Places
pub mod Control
pub mod Locals
pub mod Loops
pub mod Missing
pub mod Following
pub mod Joined
pub mod Writers
pub mod Linked
pub mod JoinedLaws
