-- The definitions of mk_plan_check, by their files.
pub mod FirstBad
pub mod Nesting
pub mod Tests
pub mod inner
