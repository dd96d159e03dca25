-- What proofs alone need.
pub mod Asked
pub mod Content
pub mod Forms
pub mod Given
pub mod Judged
pub mod Known
pub mod Related
