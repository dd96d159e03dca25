-- The definitions of mk_connect_pairs, by their files.
pub mod Connections
pub mod Ends
pub mod Faults
pub mod Groups
pub mod Lookups
pub mod Models
pub mod Usable
pub mod inner
