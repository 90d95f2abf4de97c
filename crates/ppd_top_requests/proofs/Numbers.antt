-- The words read by hand, with numbers tested as they come.
pub mod Words
pub mod Choices
pub mod Flow
pub mod Fewer
pub mod Show
pub mod Spelled
