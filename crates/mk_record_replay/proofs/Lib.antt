-- The lemmas of mk_record_replay, by their files.
pub mod Counting
pub mod Drawing
pub mod Giving
pub mod Known
pub mod Pushing
pub mod Growing
pub mod OneEnd
pub mod OneOrder
pub mod RoundsGiven
pub mod Waiting
pub mod WholeOrders
