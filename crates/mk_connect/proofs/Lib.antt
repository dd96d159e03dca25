-- The lemmas of mk_connect, by their files.
pub mod Below
pub mod ByPlaces
pub mod Joins
pub mod Keeping
pub mod Limited
pub mod Named
pub mod OverLists
pub mod Owners
pub mod Putting
pub mod Ranked
pub mod Referring
pub mod Sound
pub mod Valid
pub mod Validity
