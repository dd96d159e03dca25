-- The invariants and measures of the loops of `triggers::first_beyond`.
use Rattle.std.proofs.Common.{◌≡◌, drop}
use Rattle.mk_sched_agenda.specs.inner.Coming.{first_beyond}
use Rattle.mk_sched_agenda.proofs.triggers.first_beyond.Given as goal

abbrev pub invariant-loop-place : goal.invariant-loop-place
invariant-loop-place l = first_beyond l.limits l.made_at l.outlets l.given ≡ first_beyond l.limits l.made_at (drop l.place l.outlets) (drop l.place l.given)
