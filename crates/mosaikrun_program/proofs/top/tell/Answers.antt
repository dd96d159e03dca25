-- Answers to the goals of `top::tell` that the prover leaves.
use Rattle.std.proofs.Common.{ℕ, List, ◌⊎◌, inl, inr, refl, subst, ◌∙◌}
use Rattle.mk_outside.specs.Counts.{HasRisen}
use Rattle.mosaikrun_endings.specs.declared.ending.Ending.TheVariants.{Mem}
use Rattle.mosaikrun_program.specs.Program.{TookLine}
use Rattle.mosaikrun_program.proofs.top.tell.Goals as goal

pub returns-in-Ok-clause-told : goal.returns-in-Ok-clause-told
returns-in-Ok-clause-told g c =
    let before = c.args.err.now in
    let after = c.put_line.new.err in
    let Took : List ℕ → Type 0 = λ line. TookLine line (HasRisen (g.E.Sink.faults before) (g.E.Sink.faults after) ⊎ HasRisen (g.E.Sink.shortages before) (g.E.Sink.shortages after)) (g.E.Sink.written before) (g.E.Sink.written after) in
    (c.args.ending.now, inl refl, c.status.ensures, subst Took (c.as_slice.ensures.value ∙ c.in-Ok.ensures) c.put_line.ensures.told)

pub returns-in-Err-clause-told : goal.returns-in-Err-clause-told
returns-in-Err-clause-told g c = (Mem, inr refl, refl, c.put_line-in-Err.ensures.told)
