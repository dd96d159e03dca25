-- The lemmas of mk_frame, by their files.
pub mod OnFrames
