-- Answers to the goals of `tally::put_blanks` that the prover leaves.
use Rattle.std.proofs.Common.{◌∷◌, [], ◌++◌, ap, ◌∙◌, append_assoc}
use Rattle.std.proofs.lemmas.List.{replicate_more}
use Rattle.mk_progress.specs.Lines.{blanks}
use Rattle.mk_progress.proofs.tally.put_blanks.Goals as goal

pub loop-preserved : goal.loop-preserved
loop-preserved c = c.in_ok-put.ensures
    ∙ ap (λ l. l ++ 32 ∷ []) c.loop.invariant
    ∙ append_assoc c.args.out.now.items (blanks c.loop.counter) (32 ∷ [])
    ∙ ap (λ l. c.args.out.now.items ++ l) (replicate_more c.loop.counter 32)
