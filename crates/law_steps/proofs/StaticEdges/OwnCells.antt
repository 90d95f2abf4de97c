-- From its last write each local cell comes along the flow graph to where it is read.
pub mod Does
pub mod Ways
pub mod Tagging
pub mod Moving
pub mod Steps
pub mod Calling
pub mod Acting
pub mod Still
pub mod Locals
pub mod LocalReads
