-- What the parts of a replay answer, and the values in force.
pub use Rattle.ppd_index.specs.declared.log_index.LogIndex
pub use Rattle.ppd_index.specs.Fitting
pub use Rattle.ppd_index.specs.Indexes
pub use Rattle.ppd_index.specs.declared.row.Row
pub use Rattle.ppd_index.specs.Tables
pub use Rattle.ppd_index.specs.declared.interval.Interval
pub mod Held
pub mod Emulated
