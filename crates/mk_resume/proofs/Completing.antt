-- A resumed run in which nothing went wrong ends with everything done, or for want of memory.
use Rattle.std.proofs.Common.{◌≡◌, ◌⊎◌, inl, inr, Option, is_some, refl, sym, ap, ◌∙◌, true≢false}
use Rattle.mk_plan.specs.Journals as journals
use Rattle.mk_run.specs.declared.outcome.Outcome.TheVariants.{Done, Setup, Core, Fleet, Gone, Garbled, LongFrame, LongItem, Mem}
use Rattle.mk_resume_loop.specs.declared.ending.ResumeEnd.{ResumeEnd}
use Rattle.mk_resume_loop.specs.declared.ending.ResumeEnd.TheVariants.{Outcome, OtherPlan, OtherEntry, Differs}
use Rattle.mk_resume.specs.Resumed.{ShownBy}
use Rattle.mk_resume.specs.Laws.{ResumedRunsComplete}

pub completes : ResumedRunsComplete
completes X P saved J faults new_faults end run fine = go end run.shown
  where
    go : (e : ResumeEnd) → ShownBy X P run.first J run.heard faults new_faults e → (e ≡ Outcome Done) ⊎ (e ≡ Outcome Mem)
    go (Outcome Done) shown = inl refl
    go (Outcome (Core f)) (inl wrong) = absurd (true≢false (sym wrong.named ∙ ap (λ (o : Option journals.Fault). is_some o) (sym wrong.fault) ∙ ap (λ (o : Option journals.Fault). is_some o) fine.no_fault))
    go (Outcome (Core f)) (inr full) = absurd (fine.roomy full.full full.more)
    go (Outcome (Setup f)) shown = absurd shown
    go (Outcome Fleet) shown = absurd (fine.counts shown)
    go (Outcome (Gone i)) shown = absurd (fine.open_links i.0 shown.0 shown.1.linked shown.2)
    go (Outcome (Garbled i n)) shown = absurd (fine.right_frames i.0 shown.0 n shown.1.linked (inl shown.2))
    go (Outcome (LongFrame i n)) shown = absurd (fine.right_frames i.0 shown.0 n shown.1.linked (inr shown.2))
    go (Outcome (LongItem i n)) shown = absurd (fine.short_items i.0 n shown)
    go (Outcome Mem) shown = inr refl
    go (OtherPlan n) shown = absurd shown
    go (OtherEntry n) shown = absurd shown
    go (Differs sim place kept other) shown = absurd (fine.repeated sim place kept other shown)
