-- The lemmas of mk_sched_supply, by their files.
pub mod Supplying
pub mod Keeping
pub mod Replying
pub mod Lending
pub mod Wanting
pub mod Bringing
pub mod Feeding
pub mod Lasting
pub mod Gaining
pub mod Taking
pub mod Ranging
pub mod Giving
pub mod Beginning
pub mod Holding
