-- The lemmas of mosaikrun_program, by their files.
mod Answering
mod CarryingOn
mod Deciding
mod EndingPaces
mod EndingResumes
mod EndingRuns
mod Fleetless
mod Making
mod NeverUsage
mod Pacing
mod Playing
mod Recorded
mod Recording
mod Resuming
mod RightCalls
mod Rows
