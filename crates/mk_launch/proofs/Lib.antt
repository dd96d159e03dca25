-- The lemmas of mk_launch, by their files.
pub mod Asking
pub mod Bytes
pub mod Faulty
pub mod Finishing
pub mod Placing
pub mod Progress
