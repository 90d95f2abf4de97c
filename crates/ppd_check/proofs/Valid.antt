-- The table of an accepted source meets the rules of a valid program, part by part.
pub mod Bodies
pub mod Core
pub mod Facts
pub mod Headers
pub mod Items
pub mod Limits
pub mod Lists
pub mod Names
pub mod Order
pub mod Returns
pub mod Sizes
pub mod Terms
pub mod Uses
