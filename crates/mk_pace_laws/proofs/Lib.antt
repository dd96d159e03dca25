-- The lemmas of mk_pace_laws, by their files.
pub mod Completing
pub mod Napping
pub mod Ordering
pub mod PacesRight
pub mod Rising
pub mod SentOut
pub mod Timely
