-- The lemmas of mk_local, by their files.
pub mod Accepting
pub mod DataRight
pub mod Described
pub mod InOrder
pub mod Lists
pub mod Named
pub mod Numbers
pub mod Places
pub mod Registered
pub mod Replied
pub mod Rows
pub mod StepRight
pub mod Stepping
pub mod Taking
