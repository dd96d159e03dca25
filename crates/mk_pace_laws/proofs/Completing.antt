-- A paced run in which nothing else went wrong ends with everything done, for want of memory, or
-- because a Step was too late.
use Rattle.std.proofs.Common.{◌≡◌, Option, is_some, refl, sym, ap, ◌∙◌, ◌⊎◌, inl, inr, true≢false}
use Rattle.mk_plan.specs.Journals as journals
use Rattle.mk_run.specs.declared.outcome.Outcome.{Outcome}
use Rattle.mk_run.specs.declared.outcome.Outcome.TheVariants.{Done, Setup, Core, Fleet, Gone, Garbled, LongFrame, LongItem, Mem}
use Rattle.mk_pace_laws.specs.declared.end.PaceEnd.{PaceEnd}
use Rattle.mk_pace_laws.specs.declared.end.PaceEnd.TheVariants as pace
use Rattle.mk_pace_laws.specs.Ends.{Shows, ShowsOutcome}
use Rattle.mk_pace_laws.specs.Laws.{EndsLate, PacesComplete}

pub completes : PacesComplete
completes X P J T faults new_faults end run fine = whole end run.shown
  where
    go : (e : Outcome) → ShowsOutcome X P J faults new_faults e → (pace.Outcome e ≡ pace.Outcome Done) ⊎ ((pace.Outcome e ≡ pace.Outcome Mem) ⊎ EndsLate T (pace.Outcome e))
    go Done shown = inl refl
    go (Core f) (inl wrong) = absurd (true≢false (sym wrong.named ∙ ap (λ (o : Option journals.Fault). is_some o) (sym wrong.fault) ∙ ap (λ (o : Option journals.Fault). is_some o) fine.no_fault))
    go (Core f) (inr full) = absurd (fine.roomy full.full full.more)
    go (Setup f) shown = absurd shown
    go Fleet shown = absurd (fine.counts shown)
    go (Gone i) shown = absurd (fine.open_links i.0 shown.0 shown.1.linked shown.2)
    go (Garbled i n) shown = absurd (fine.right_frames i.0 shown.0 n shown.1.linked (inl shown.2))
    go (LongFrame i n) shown = absurd (fine.right_frames i.0 shown.0 n shown.1.linked (inr shown.2))
    go (LongItem i n) shown = absurd (fine.short_items i.0 n shown)
    go Mem shown = inr (inl refl)

    whole : (e : PaceEnd) → Shows X P J T faults new_faults e → (e ≡ pace.Outcome Done) ⊎ ((e ≡ pace.Outcome Mem) ⊎ EndsLate T e)
    whole (pace.Outcome o) shown = go o shown
    whole (pace.Late sim time late allowed) shown = inr (inr (record { sim = sim; time = time; late = late; allowed = allowed; is = refl; bound = shown.strict_is }))
