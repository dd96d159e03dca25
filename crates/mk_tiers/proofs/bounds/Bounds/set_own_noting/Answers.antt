-- Answers to the goals of `bounds::Bounds::set_own_noting` that the prover leaves.
use Rattle.std.proofs.Common.{length, ap, sym, ◌∙◌}
use Rattle.std.proofs.lemmas.List.{length-set}
use Rattle.mk_tiers.specs.Seen.{Seen}
use Rattle.mk_tiers.specs.Sets.{has}
use Rattle.mk_tiers.proofs.bounds.Bounds.set_own_noting.Goals as goal
use Rattle.mk_base.proofs.Bools.{neither_holds}

pub returns-clause-noted : goal.returns-clause-noted
returns-clause-noted c = record {
  plan = c.put_own-moved.ensures.plan;
  count = ap (λ (B : Seen). length B.owns) c.put_own-moved.ensures.changed ∙ length-set c.args.self.now.owns c.args.sim.0 c.args.own;
  grown = λ i h out. (neither_holds (has c.args.noted.now i) (has c.put_own-moved.result i) (sym (c.or.ensures i h) ∙ out)).0;
  same = λ P valid of s low h out e was. c.put_own-moved.ensures.kept P valid of s low (neither_holds (has c.args.noted.now s) (has c.put_own-moved.result s) (sym (c.or.ensures s h) ∙ out)).1 e was;
}
