-- The grammar, the limits, what the parser does at a token, the table of nodes that it makes, and what is
-- answered.
pub mod Answer
pub mod Below
pub mod Choice
pub mod Grammar
pub mod Grown
pub mod Language
pub mod Laws
pub mod Leaves
pub mod Limits
pub mod Machine
pub mod Rank
pub mod Renumbered
pub mod Size
pub mod Stack
pub mod Table
pub mod Tree
pub mod Trees
pub mod Front
pub mod Formed
pub mod Gaps
pub mod LexLaws
pub mod Tokens
