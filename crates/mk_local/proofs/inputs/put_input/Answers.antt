-- Answers to the goals of `inputs::put_input` that the prover leaves.
use Rattle.std.proofs.Common.{◌<◌, ℕ, slice_set, ap, sym, ◌∙◌, subst}
use Rattle.mk_local.specs.declared.inputs.Taken.{Taken}
use Rattle.mk_local.proofs.Taking.{one_more}
use Rattle.mk_local.proofs.inputs.put_input.Goals as goal

pub returns-clause-taken : goal.returns-clause-taken
returns-clause-taken c before taken =
    one_more c.args.turn before c.args.input.now c.in-Some.place c.args.all.now c.set.new.self c.at.result.now c.at.ensures c.in-Some.ensures.own
    (λ k below is. sym c.in-Some.is ∙ c.place_of.ensures.others k (subst (λ (n : ℕ). k < n) (sym c.len.ensures) below) is)
    (c.set.ensures ∙ ap (λ (t : Taken). slice_set c.args.all.now c.in-Some.place t) c.with_one-taken.ensures) taken
