-- The lemmas of mk_plan_judge, by their files.
pub mod AtPlaces
pub mod Leaving
pub mod Putting
pub mod Puts
pub mod Right
pub mod Taken
pub mod Takings
