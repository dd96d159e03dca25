-- The definitions of mk_connect, by their files.
pub mod Agreeing
pub mod Asyncs
pub mod ByPlace
pub mod Complete
pub mod Edges
pub mod Made
pub mod Related
pub mod inner
