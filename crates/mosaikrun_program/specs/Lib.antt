-- The definitions of mosaikrun_program, by their files.
pub mod Answers
pub mod Around
pub mod Commands
pub mod Complete
pub mod Fleetless
pub mod Headline
pub mod Making
pub mod Pacing
pub mod Program
pub mod Recording
pub mod Resuming
pub mod Running
pub mod inner
