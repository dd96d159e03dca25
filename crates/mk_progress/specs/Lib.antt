-- The definitions of mk_progress, by their files.
pub mod Both
pub mod Dues
pub mod Lines
pub mod Looks
pub mod Numbers
pub mod Tallies
