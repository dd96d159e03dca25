-- Answers to the goals of `bits::Bits::below` that the prover leaves.
use Rattle.std.proofs.Common.{◌+◌, Bool, ◌||◌, sym, ap, ◌∙◌, arith, inl, inr}
use Rattle.std.proofs.lemmas.Bool.{cases_eq, cases_lt, eq-eqb, ne_eqb, lt-ltb, le-ltb}
use Rattle.mk_tiers.specs.Sets.{has}
use Rattle.mk_tiers.proofs.bits.Bits.below.Goals as goal

pub loop-number-init : goal.loop-number-init
loop-number-init c i h = c.new-all.ensures i h ∙ sym (le-ltb i 0 (omega arith))

pub loop-number-preserved : goal.loop-number-preserved
loop-number-preserved c = λ i h.
    let old = c.loop-number.all in
    let n = c.loop-number.number in
    elim (cases_eq i n) [
      | inl e ↦ c.insert.ensures i h ∙ ap (λ (b : Bool). b || has old i) (eq-eqb i n e) ∙ sym (lt-ltb i (n + 1) (omega arith))
      | inr d ↦ c.insert.ensures i h ∙ ap (λ (b : Bool). b || has old i) (ne_eqb i n d) ∙ c.loop-number.invariant i h ∙ elim (cases_lt i n) [
        | inl l ↦ lt-ltb i n l ∙ sym (lt-ltb i (n + 1) (omega arith))
        | inr m ↦ le-ltb i n m ∙ sym (le-ltb i (n + 1) (omega arith))
      ]
    ]
