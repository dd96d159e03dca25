-- The definitions of mk_sched_supply, by their files.
pub mod Outputs
pub mod Stock
pub mod Asking
pub mod inner
