-- The invariants and measures of the loops of `links::Links::new`.
use Rattle.std.proofs.Common.{◌≡◌, [], take}
use Rattle.mk_launch.specs.Starts.{links_in}
use Rattle.mk_run_links.specs.Places.{new_channels}
use Rattle.mk_run_links.proofs.links.Links.new.Given as goal

-- the channels and turns of the places so far
abbrev pub invariant-loop-place : goal.invariant-loop-place
invariant-loop-place l = record {
  channels : l.channels ≡ new_channels (take l.place-index l.links);
  ready : l.turns.ready ≡ links_in (take l.place-index l.links);
  taken : l.turns.taken ≡ [];
  parked : l.turns.parked ≡ [];
}
