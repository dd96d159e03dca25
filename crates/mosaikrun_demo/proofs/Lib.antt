-- The lemmas of mosaikrun_demo, by their files.
mod NoLinks
mod OfDemo
