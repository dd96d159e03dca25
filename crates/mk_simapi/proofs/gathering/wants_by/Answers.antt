-- Answers to the goals of `gathering::wants_by` that the prover leaves.
use Rattle.std.proofs.Common.{◌≡◌, ◌++◌, true, false, sym, ap, ◌∙◌, arith}
use Rattle.mk_simapi.specs.inner.Inputs.{wants_among}
use Rattle.mk_simapi.proofs.Forming.{wants_gathered, wants_none}
use Rattle.mk_simapi.proofs.gathering.wants_by.Goals as goal

pub returns-then-not-are_wants : goal.returns-then-not-are_wants
returns-then-not-are_wants c = let none : c.are_wants.result ≡ false = grind (arith, c.if-not-are_wants.true) in sym (wants_none c.are_wants.result c.args.entities.now none c.are_wants.ensures)

pub returns : goal.returns
returns c = let there : c.are_wants.result ≡ true = grind (arith, c.if-not-are_wants.false) in
    wants_gathered c.are_wants.result c.args.entities.now c.put_wanted.new.wants there c.are_wants.ensures (c.in_ok-put_wanted.ensures ∙ ap (λ l. l ++ wants_among c.args.entities.now) c.new-wants.ensures)
