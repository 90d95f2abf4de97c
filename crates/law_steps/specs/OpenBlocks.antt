-- What a process of a run does step by step, and which blocks are open at each of its steps.
pub mod Run
pub mod Stack
