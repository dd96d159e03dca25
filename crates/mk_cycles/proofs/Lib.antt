-- The lemmas of mk_cycles, by their files.
pub mod Chains
pub mod Listings
pub mod Loops
pub mod OnEdges
pub mod OnRows
pub mod Placing
