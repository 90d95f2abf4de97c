-- The rules, and the definitions that follow them.
pub mod Starting
pub mod Turning
pub mod Nearing
pub mod Spelling
pub mod Lacking
pub mod Needing
