-- The definitions of mk_order, by their files.
pub mod LowerBound
pub mod Pending
pub mod Rising
pub mod Supplies
