-- States of processes as they are copied.
pub mod States
