-- A recording as bytes: its form, and what encoding and decoding answer.
pub mod Reader
pub mod Form
pub mod Format
pub mod Came
pub mod Counted
pub mod Recordings
pub mod Answer
pub mod Laws
