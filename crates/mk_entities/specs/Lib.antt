-- The definitions of mk_entities, by their files.
pub mod Creation
pub mod Descriptions
pub mod Sound
pub mod Tied
pub mod inner
