-- The definitions of mk_local, by their files.
pub mod Accepted
pub mod Calls
pub mod Data
pub mod Inputs
pub mod Kinds
pub mod Metadata
pub mod Registries
pub mod Replies
pub mod Right
pub mod Rows
pub mod Simulators
pub mod Steps
pub mod inner
