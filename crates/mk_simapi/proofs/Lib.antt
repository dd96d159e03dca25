-- The lemmas of mk_simapi, by their files.
mod Forming
mod Ranges
mod Answering
mod Logs
mod Going
mod Steps
mod Starting
