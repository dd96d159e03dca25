-- What proofs alone need.
pub mod Arcs
pub mod Beginning
pub mod Clear
pub mod Levels
pub mod Outer
pub mod Standing
pub mod Times
pub mod Wires
