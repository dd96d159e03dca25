-- The lemmas of mk_resume, by their files.
pub mod Alike
pub mod Beginning
pub mod Completing
pub mod DoneRuns
pub mod Linkless
pub mod OneOther
pub mod Refused
pub mod Saying
pub mod Shown
pub mod Whole
pub mod WholeRuns
