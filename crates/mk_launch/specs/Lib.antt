-- The definitions of mk_launch, by their files.
pub mod Asking
pub mod Marks
pub mod Parts
pub mod Ready
pub mod Starts
pub mod Words
pub mod inner
