-- Answers to the goals of `gathering::inputs_by` that the prover leaves.
use Rattle.std.proofs.Common.{◌≡◌, ◌++◌, true, false, sym, ap, ◌∙◌, arith}
use Rattle.mk_simapi.specs.inner.Inputs.{inputs_among}
use Rattle.mk_simapi.proofs.Forming.{inputs_gathered, inputs_none, inputs_pass}
use Rattle.mk_simapi.proofs.gathering.inputs_by.Goals as goal

pub returns-then-not-are_sources : goal.returns-then-not-are_sources
returns-then-not-are_sources c = let none : c.are_sources.result ≡ false = grind (arith, c.if-not-are_sources.true) in sym (inputs_none c.are_sources.result c.args.entities.now none c.are_sources.ensures)

pub put_entities-requires : goal.put_entities-requires
put_entities-requires c = let there : c.are_sources.result ≡ true = grind (arith, c.if-not-are_sources.false) in inputs_pass c.are_sources.result c.args.entities.now there c.are_sources.ensures c.requires

pub returns : goal.returns
returns c = let there : c.are_sources.result ≡ true = grind (arith, c.if-not-are_sources.false) in
    inputs_gathered c.are_sources.result c.args.entities.now c.put_entities.new.inputs there c.are_sources.ensures (c.in_ok-put_entities.ensures ∙ ap (λ l. l ++ inputs_among c.args.entities.now) c.new-inputs.ensures)
