-- A handshake in which nothing went wrong ends early for want of memory alone.
use Rattle.std.proofs.Common.{◌≡◌, refl, inl, inr}
use Rattle.mk_outside.specs.Counts.{HasRisen}
use Rattle.mk_run_crew.specs.declared.halt.Halt.{Halt}
use Rattle.mk_run_crew.specs.declared.halt.Halt.TheVariants.{Setup, Fleet, Gone, Garbled, LongFrame, LongItem, Mem}
use Rattle.mk_run_crew.specs.Halted.{ShowsCause}
use Rattle.mk_run_crew.specs.Completing.{HandshakesComplete}

pub completes : HandshakesComplete
completes A faults new_faults h halted fine = go h halted.cause
  where
    go : (e : Halt) → ShowsCause A (HasRisen faults new_faults) halted.queued halted.later e → e ≡ Mem
    go (Setup fault) shown = absurd (fine.right_replies fault shown.0)
    go Fleet shown = absurd (fine.counts shown)
    go (Gone sim) shown = absurd (fine.open_links sim.0 shown.0 shown.1 shown.2)
    go (Garbled sim test) shown = absurd (fine.right_frames sim.0 shown.0 test shown.1 (inl shown.2))
    go (LongFrame sim n) shown = absurd (fine.right_frames sim.0 shown.0 n shown.1 (inr shown.2))
    go (LongItem sim n) shown = absurd (fine.short_requests halted.queued halted.later sim.0 n halted.parts shown)
    go Mem shown = refl
