-- Answers to the goals of `delays::settling_by` that the prover leaves.
use Rattle.std.proofs.Common.{◌≡◌, ℤ, true, arith, sym, ap, subst, ◌∙◌, int_lt}
use Rattle.std.proofs.lemmas.Int.{ints}
use mir.Syntax.{w64}
use mir.Val.{to_z, of_z}
use Rattle.mk_base.specs.declared.tier.Tier.{Tier}
use Rattle.mk_base.specs.Tiers.{delayed, up_to, IsUpTo}
use Rattle.mk_buffers_log.proofs.Ascending.{comes_in_time}
use Rattle.mk_buffers_log.proofs.delays.settling_by.Goals as goal

pub returns-then-is_in_time : goal.returns-then-is_in_time
returns-then-is_in_time c = λ m before here.
    let end : to_z w64 (of_z w64 c.args.until) ≡ c.args.until = omega (arith, ints) in
    let is : c.after-arrival.result ≡ delayed c.args.made c.args.via = c.after-arrival.ensures ∙ ap (delayed c.args.made) c.via.ensures.same in
    c.later_of.ensures m before (subst (λ (t : Tier). IsUpTo t m) (sym is) (comes_in_time (up_to (delayed c.args.made c.args.via) m) (delayed c.args.made c.args.via) c.args.until here
    (subst (λ (t : Tier). int_lt t.time c.args.until ≡ true) is (subst (λ (u : ℤ). int_lt c.after-arrival.result.time u ≡ true) end (sym c.if-is_in_time.ensures)))))
