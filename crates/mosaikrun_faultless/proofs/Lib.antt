-- The lemmas of mosaikrun_faultless, by their files.
mod Sums
mod Asked
mod Counting
mod Limits
mod Studies
mod Resumes
mod Finishing
mod Records
