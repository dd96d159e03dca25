-- The lemmas of mk_connect_pairs, by their files.
pub mod Going
pub mod Initials
pub mod Membership
pub mod Modelled
pub mod Numbering
pub mod Testing
pub mod Usable
pub mod Ways
