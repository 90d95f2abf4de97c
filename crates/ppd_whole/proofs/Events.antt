-- Parts that are made one by one.
pub mod Parts
