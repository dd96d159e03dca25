-- Answers to the goals of `inputs::place_of` that the prover leaves.
use Rattle.std.proofs.Common.{◌≡◌, true, ap, sym, ◌∙◌}
use Rattle.mk_local.specs.Data.{place_named}
use Rattle.mk_local.specs.Inputs.{takes}
use Rattle.mk_local.proofs.Taking.{is_own, is_within, only}
use Rattle.mk_local.proofs.inputs.place_of.Goals as goal

pub returns-then-takes-clause-within : goal.returns-then-takes-clause-within
returns-then-takes-clause-within c =
    let taken : takes c.args.turn c.args.input.now.attr ≡ true = ap (takes c.args.turn) (sym c.as_str.ensures) ∙ sym c.takes.ensures ∙ c.if-takes.true in
    is_within c.args.turn c.args.input.now c.args.count c.place_named.result taken (c.place_named.ensures ∙ ap (place_named c.args.count) c.as_str-then-takes.ensures)

pub returns-then-takes-clause-own : goal.returns-then-takes-clause-own
returns-then-takes-clause-own c =
    let taken : takes c.args.turn c.args.input.now.attr ≡ true = ap (takes c.args.turn) (sym c.as_str.ensures) ∙ sym c.takes.ensures ∙ c.if-takes.true in
    is_own c.args.turn c.args.input.now c.args.count c.place_named.result taken (c.place_named.ensures ∙ ap (place_named c.args.count) c.as_str-then-takes.ensures)

pub returns-then-takes-clause-others : goal.returns-then-takes-clause-others
returns-then-takes-clause-others c k below is = c.place_named.ensures ∙ ap (place_named c.args.count) c.as_str-then-takes.ensures ∙ (only c.args.turn c.args.input.now c.args.count k c.ranges.count.fits below is).1
