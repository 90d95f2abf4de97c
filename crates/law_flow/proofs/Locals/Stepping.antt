-- What is told of the tags goes on being told with each step.
pub mod FirstLevel
pub mod Entering
pub mod Others
pub mod Calls
pub mod Returns
pub mod Leaving
pub mod Going
