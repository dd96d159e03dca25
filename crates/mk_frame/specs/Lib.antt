-- The definitions of mk_frame, by their files.
pub mod Frames
pub mod Answers
