-- What each connection takes is wanted of its source.
use Rattle.std.proofs.Common.{◌≡◌, ℕ, [], filter, ◌==◌, eq-eqb, inr}
use Rattle.std.proofs.lemmas.Map.Lookups.{exact_bytes}
use Rattle.std.specs.List.Sorted.{IsStrictlySortedBy}
use Rattle.std.specs.declared.cmp.Ordering.TheVariants.{Equal}
use Rattle.mk_base.specs.Lists.{IsIn, text_order}
use Rattle.mk_base.proofs.Lists.{filter_in}
use Rattle.mk_plan.specs.declared.Plan.{Plan}
use Rattle.mk_plan.specs.declared.Conn.{Conn}
use Rattle.mk_plan.specs.declared.Want.{Want}
use Rattle.mk_plan.specs.Plans.{owner}
use Rattle.mk_plan.specs.Turns.{wanted, want_order, want_of}
use Rattle.mk_plan_judge.proofs.Putting.{names_total}
use Rattle.mk_plan_judge.proofs.Puts.{all_put_in, puts_sorted}
use Rattle.mk_base.proofs.Bools.{both_equal}

pub same_names : (v w : Want) → want_order v w ≡ Equal → v ≡ w
same_names v w e = let t = both_equal (text_order v.eid w.eid) (text_order v.attr w.attr) e in λ i. record { eid = exact_bytes v.eid w.eid t.0 i; attr = exact_bytes v.attr w.attr t.1 i }

-- it is among what each GetData asks of the source's simulator
pub taken_is_wanted : (P : Plan) (c : Conn) (i : ℕ) → IsIn c P.conns → owner P c.from ≡ i → IsIn (want_of P c) (wanted P i)
taken_is_wanted P c i m e = all_put_in want_order same_names (want_of P) c (filter (λ d. owner P d.from == i) P.conns) [] (inr (filter_in (λ d. owner P d.from == i) c P.conns m (eq-eqb _ _ e)))

-- what is wanted is in order, each once
pub wanted_sorted : (P : Plan) (i : ℕ) → IsStrictlySortedBy want_order (wanted P i)
unfolding IsStrictlySortedBy
wanted_sorted P i = puts_sorted want_order names_total (want_of P) (filter (λ c. owner P c.from == i) P.conns) [] tt
