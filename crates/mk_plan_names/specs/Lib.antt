-- The definitions of mk_plan_names, by their files.
pub mod Names
pub mod inner
