-- The invariants and measures of the loops of `crew::Crew::set_up_within`.
use Rattle.std.proofs.Common.{◌≡◌, ◌-◌, length}
use Rattle.mk_run_laws.specs.Handshake.{setup_requests}
use Rattle.mk_run_crew.specs.Attempts.{Attempt}
use Rattle.mk_run_crew.specs.inner.Asking.{GoesSoFar}
use Rattle.mk_run_crew.proofs.crew.Crew.set_up_within.Given as goal

-- the requests so far were answered
abbrev pub invariant-asking : goal.invariant-asking
invariant-asking g l = record {
  same_channels : (l.self).channels ≡ (l.fn.self).channels;
  same_places : (l.self).places ≡ (l.fn.self).places;
  so_far : (A : Attempt) → GoesSoFar A l.fn.self l.fn.setup → GoesSoFar A l.self l.setup;
}

abbrev pub decreases-asking : goal.decreases-asking
decreases-asking g l = length (setup_requests (l.setup).scenario) - (l.setup).answered
