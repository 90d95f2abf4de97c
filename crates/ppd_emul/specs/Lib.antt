-- The replay of one interval in code: its parts and what they answer.
pub use Rattle.law_steps.specs.Theorem.Laws
pub use Rattle.ppd_model.specs.declared.block_trace.BlockTrace
pub use Rattle.ppd_model.specs.declared.block_trace.EmulError
pub use Rattle.ppd_model.specs.Replay
pub use Rattle.ppd_model.specs.declared.wanted.Found
pub use Rattle.ppd_model.specs.declared.wanted.Wanted
pub use Rattle.ppd_emul_values.specs.LogIndex
pub use Rattle.ppd_emul_values.specs.Fitting
pub use Rattle.ppd_emul_values.specs.Indexes
pub use Rattle.ppd_emul_values.specs.Row
pub use Rattle.ppd_emul_values.specs.Tables
pub use Rattle.ppd_emul_values.specs.Interval
pub mod Turns
pub mod Spending
