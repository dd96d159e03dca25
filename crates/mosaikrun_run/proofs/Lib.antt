-- The lemmas of mosaikrun_run, by their files.
mod Halting
pub mod OneText
pub mod Recording
pub mod Reporting
mod StepFrames
mod Summarizing
pub mod Telling
pub mod Showing
