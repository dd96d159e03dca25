-- The lemmas of mk_scenario, by their files.
pub mod Referring
pub mod Refusing
pub mod Earlier
pub mod Placing
pub mod Naming
pub mod ListFacts
pub mod SimFacts
pub mod GroupFacts
pub mod BlockFacts
pub mod Wellformedness
pub mod IdFacts
pub mod Rows
