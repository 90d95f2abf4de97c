-- A replay of an interval beside the process that ran it: the invariant between them, which each
-- step keeps, and the blocks that are open by what is still to do.
pub mod Laws
pub mod Relation
pub mod Opens
