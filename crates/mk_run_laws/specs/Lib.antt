-- The definitions of mk_run_laws, by their files.
pub mod Hearing
pub mod Handshake
pub mod Payloads
pub mod Channels
pub mod Kinds
pub mod Rests
pub mod Crews
pub mod Running
pub mod Exchanges
pub mod Runs
pub mod Laws
pub mod inner
