-- The definitions of mk_cycles, by their files.
pub mod Edges
pub mod Orders
pub mod Cycles
pub mod Outcomes
pub mod inner
