-- Worked rows of the whole trace and of slices.
pub mod CoreForm
pub mod Example
pub mod Processes
pub mod LargerProcesses
pub mod Needs
pub mod Flows
pub mod Runs
pub mod Indexes
pub mod Replays
pub mod Agreements
pub mod Refusals
pub mod Comings
pub mod Reruns
pub mod WholeTraces
