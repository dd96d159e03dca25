-- The lemmas of mosaikrun_again, by their files.
pub mod Again
mod KindReplies
mod LinkMessages
mod Readable
mod Replaying
mod Saved
mod Saying
