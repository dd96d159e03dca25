-- What a message does to a view, by what is open where it comes from; and the time of a step that
-- is asked for.
use Rattle.std.proofs.Common.{◌≡◌, ℕ, ◌≤◌, ◌≤ℤ◌, true, List, Option, Some, sym, ap, ◌∙◌, arith, int_lt, nat_le}
use Rattle.std.proofs.lemmas.Int.{ints}
use Rattle.std.proofs.lemmas.Bool.{leb-true}
use Rattle.mk_base.specs.declared.SimNo.{SimNo}
use Rattle.mk_base.specs.declared.tier.Tier.{Tier}
use Rattle.mk_plan.specs.declared.Plan.{Plan}
use Rattle.mk_plan.specs.declared.Entry.{Entry}
use Rattle.mk_plan.specs.declared.Entry.TheVariants.{Got}
use Rattle.mk_plan.specs.declared.Message.{Message}
use Rattle.mk_plan.specs.declared.Place.{Place}
use Rattle.mk_plan.specs.declared.Cause.{Cause}
use Rattle.mk_plan.specs.Plans.{IsValidPlan}
use Rattle.mk_plan.specs.Turns.{wrong}
use Rattle.mk_plan.specs.Journals.{View, OpenTurn, place_at, fault_of, note_right, note_got, note, view}
use Rattle.mk_plan.specs.Orderly.{IsOrderlySoFar}
use Rattle.mk_plan.specs.Ready.{IsReady}
use Rattle.mk_plan.specs.Advance.{IsAdvance}
use Rattle.mk_order.proofs.Past.{pending_within}
use Rattle.mk_sched_open.specs.Turns.{IsRight, IsInRun}
use Rattle.mk_base.specs.Limits.{latest_end}
use Rattle.mk_base.proofs.Bools.{both_hold}

-- the view after a right message
pub noted_right : (P : Plan) (V : View) (s : SimNo) (m : Message) (T : OpenTurn) (q : Option Place) → IsRight P V s.0 m T q → note P V (Got s m) ≡ note_right P V s.0 m T q
noted_right P V s m T q h =
    ap (λ (o : Option OpenTurn). note_got P V s.0 m o (wrong P s.0 (place_at o) m)) h.opened
    ∙ ap (note_got P V s.0 m (Some T)) h.right
    ∙ ap (note_right P V s.0 m T) h.goes

-- the view after a wrong message: the same with its fault
pub noted_wrong : (P : Plan) (V : View) (s : SimNo) (m : Message) (place : Place) (c : Cause) → place ≡ place_at (V.open_at s.0) → wrong P s.0 place m ≡ Some c
    → note P V (Got s m) ≡ record { acts = V.acts; open_at = V.open_at; owed = V.owed; fault = Some (fault_of V s.0 c) }
noted_wrong P V s m place c is wrongly = ap (note_got P V s.0 m (V.open_at s.0)) (ap (λ (p : Place). wrong P s.0 p m) (sym is) ∙ wrongly)

-- the step that a simulator may be asked for is within the run
pub in_run : (P : Plan) → IsValidPlan P → (J : List Entry) → IsOrderlySoFar IsReady IsAdvance P J → (s : ℕ) (x : Tier) → IsReady P (view P J) s x → IsInRun x
in_run P valid J orderly s x ready =
    let w = pending_within IsReady IsAdvance P (λ V s x r. r) valid J orderly s x ready.at_pending in
    let u : P.until ≤ℤ latest_end = valid.well_formed.limits.until.1 in
    let l : P.loops ≤ 1000 = valid.well_formed.limits.loops.1 in
    let t = both_hold (int_lt x.time P.until) (nat_le x.tier P.loops) w.1 in
    let e : int_lt x.time P.until ≡ true = t.0 in
    let k : x.tier ≤ P.loops = leb-true x.tier P.loops t.1 in
    record { early = w.0; late = grind (arith, ints); low = omega arith }
