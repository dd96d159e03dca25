-- The definitions of mk_plan_judge, by their files.
pub mod Places
pub mod inner
