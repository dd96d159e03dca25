-- The definitions of mosaikrun_faultless, by their files.
pub mod Limits
pub mod Within
pub mod Laws
