-- Answers to the goals of `log::coming_with` that the prover leaves.
use Rattle.std.proofs.Common.{◌≡◌, rules, arith, sym, refl, ◌∙◌, ap, ℤ, deque_len}
use Rattle.std.proofs.lemmas.Fn.{always_returns_same}
use Rattle.std.proofs.lemmas.Int.{ints}
use mir.Syntax.{w64}
use mir.Val.{to_z, of_z}
use Rattle.mk_buffers_log.specs.inner.Logs.{comes_with}
use Rattle.mk_buffers_log.proofs.Ascending.{all_pass, partitioned}
use Rattle.mk_buffers_log.proofs.Keeping.{with_downward}
use Rattle.mk_buffers_log.proofs.log.coming_with.Goals as goal

pub returns-in-Some-clause-cut : goal.returns-in-Some-clause-cut
returns-in-Some-clause-cut c =
    let end : to_z w64 (of_z w64 c.args.until) ≡ c.args.until = omega (arith, ints) in
    all_pass (comes_with c.args.vias.now c.args.until c.args.made.now.at) (with_downward c.args.vias.now c.args.until c.args.made.now.at c.args.made.now.at) c.args.entries.now.items c.in-Some.last.now c.len.result (deque_len c.args.entries.now) c.len.ensures (omega arith) c.requires
    (c.in-Some.ensures.variant.0 refl) c.in-Some.ensures.lookup
    (ap (λ (u : ℤ). comes_with c.args.vias.now u c.args.made.now.at c.in-Some.last.now.at) (sym end) ∙ (rw (← c.at-at.ensures.same, ← c.at.ensures.same) (sym c.if-comes_with.ensures)))

pub returns-in_default-clause-cut : goal.returns-in_default-clause-cut
returns-in_default-clause-cut c = c.partition_point.ensures.partitioned (λ t. comes_with c.args.vias.now c.args.until c.args.made.now.at t.at) (always_returns_same _ _ _ (λ a r f' k. search rules))
    (partitioned (comes_with c.args.vias.now c.args.until c.args.made.now.at) (with_downward c.args.vias.now c.args.until c.args.made.now.at c.args.made.now.at) c.args.entries.now.items c.requires)
