-- What the replay of an interval from its own log gives.
pub mod Laws
