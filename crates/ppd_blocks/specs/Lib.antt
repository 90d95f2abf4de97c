-- Where the units of a program start, and the shared cells that each may read.
pub mod Starts
pub mod Walk
pub mod Laws
pub mod Blocks
pub use Rattle.ppd_sets.specs.Used
pub use Rattle.ppd_sets.specs.Named
