-- What proofs alone need.
pub mod Apps
pub mod Arranged
pub mod Asked
pub mod Sorted
