-- The walk back over an internal edge, part by part.
pub use Rattle.ppd_flow_tables.specs.Tabled
pub use Rattle.ppd_flow_tables.specs.Writing
pub use Rattle.ppd_flow_tables.specs.Past
pub use Rattle.ppd_flow_tables.specs.Pasts
pub mod Items
pub mod SharedCells
