-- The definitions of mk_run_crew, by their files.
pub mod Attempts
pub mod Seen
pub mod Calls
pub mod Answers
pub mod Answered
pub mod Begun
pub mod Completing
pub mod Halted
pub mod Started
pub mod Wholly
pub mod inner
