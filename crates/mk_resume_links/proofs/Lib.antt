-- The lemmas of mk_resume_links, by their files.
pub mod Catching
pub mod Closing
pub mod Ended
pub mod Growing
pub mod Repeating
pub mod Rested
pub mod Touching
pub mod Waiting
