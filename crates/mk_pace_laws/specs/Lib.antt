-- The definitions of mk_pace_laws, by their files.
pub mod Clocks
pub mod Ends
pub mod Laws
pub mod Moments
pub mod Naps
pub mod Paced
