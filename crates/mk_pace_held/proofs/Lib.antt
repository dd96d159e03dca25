-- The lemmas of mk_pace_held, by their files.
mod Changing
mod Choosing
mod Minima
