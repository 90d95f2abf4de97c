-- What is told of the tags after an event, and where a level is new or left.
pub mod Same
pub mod Tags
pub mod Put
pub mod New
pub mod Back
pub mod Left
