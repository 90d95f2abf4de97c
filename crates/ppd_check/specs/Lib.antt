-- Why a source is refused, and how a program is read from bytes; the bodies of a source, and how they end.
pub mod Answer
pub mod Bodies
pub mod Endings
pub mod Placed
pub mod Read
pub mod Refused
pub mod Sources
