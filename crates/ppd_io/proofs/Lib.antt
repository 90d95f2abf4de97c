pub mod Lining
pub mod Prefixes
