-- The lemmas of mk_record_laws, by their files.
mod Characters
pub mod Clean
mod Counting
pub mod Entries
pub mod Fields
pub mod Heard
pub mod Lines
mod Messages
pub mod Recorded
pub mod Sound
pub mod Steps
mod Texts
mod Tokens
mod Trees
mod Values
pub mod Whole
