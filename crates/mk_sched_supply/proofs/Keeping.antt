-- Marks stay marks as entries come.
use Rattle.std.proofs.Common.{◌≡◌, ℕ, ◌<◌, pos, ◌≤ℤ◌, List, [], ◌∷◌, Option, Some, sym, ap, subst, arith}
use Rattle.std.proofs.lemmas.Int.{ints}
use Rattle.mk_base.specs.declared.SimNo.{SimNo}
use Rattle.mk_base.specs.declared.tier.Tier.{Tier}
use Rattle.mk_base.specs.Tiers.{IsUpTo, delayed, moment}
use Rattle.mk_base.proofs.TierOrder.{up_to_trans, delayed_no_earlier}
use Rattle.mk_plan.specs.declared.Plan.{Plan}
use Rattle.mk_plan.specs.declared.Entry.{Entry}
use Rattle.mk_plan.specs.declared.Entry.TheVariants.{Sent, Got}
use Rattle.mk_plan.specs.declared.Item.{Item}
use Rattle.mk_plan.specs.declared.Message.{Message}
use Rattle.mk_plan.specs.declared.Place.{Place}
use Rattle.mk_plan.specs.Plans.{IsValidPlan, sim_count}
use Rattle.mk_plan.specs.Deliveries.{supply}
use Rattle.mk_plan.specs.Sequential.{no_acts, response}
use Rattle.mk_plan.specs.Journals.{OpenTurn, View, empty_view, note, note_right, note_sent, view}
use Rattle.mk_plan.specs.Ready.{IsReady, start}
use Rattle.mk_plan.specs.Advance.{IsAdvance}
use Rattle.mk_plan.specs.Orderly.{IsAllowed, IsOrderlySoFar}
use Rattle.mk_plan.specs.Walks.{Reach, nobody, from_start, along, link}
use Rattle.mk_order.proofs.LaterQuestions.{mark_stays_from}
use Rattle.mk_order.specs.Pending.{IsMarkOf}
use Rattle.mk_order.proofs.Reasons.{pending_below, pending_due}
use Rattle.mk_order.proofs.RightActs.{due_not_negative}
use Rattle.mk_order.proofs.Seen.{reached_sound}
use Rattle.mk_order.proofs.VisitOrder.{edge_width}
use Rattle.mk_sched_open.specs.Turns.{IsRight}
use Rattle.mk_sched_open.proofs.Messages.{noted_right}

module _ (P : Plan) (valid : IsValidPlan P) (J : List Entry) (orderly : IsOrderlySoFar IsReady IsAdvance P J) where
  -- over one entry that may come next
  pub mark_after : (e : Entry) → IsAllowed IsReady IsAdvance P (view P J) e → (s : ℕ) (m : Tier) → IsMarkOf P (view P J) s m → IsMarkOf P (note P (view P J) e) s m
  mark_after e allowed s m mark = mark_stays_from IsReady IsAdvance P (λ V s x r. r) valid (view P J) (e ∷ []) (reached_sound IsReady IsAdvance P (λ V s x r. r) J orderly) (allowed, tt) s m mark

  module _ (s : SimNo) (m : Message) (T : OpenTurn) (allowed : IsAllowed IsReady IsAdvance P (view P J) (Got s m)) where
    pub mark_right : (q : Option Place) → IsRight P (view P J) s.0 m T q → (i : ℕ) (k : Tier) → IsMarkOf P (view P J) i k → IsMarkOf P (note_right P (view P J) s.0 m T q) i k
    mark_right q right i k mark = subst (λ (W : View). IsMarkOf P W i k) (noted_right P (view P J) s m T q right) (mark_after (Got s m) allowed i k mark)

    -- over a right message and what is owed then
    pub mark_going : (q : Place) (item : Item) → IsRight P (view P J) s.0 m T (Some q) → item ≡ response P (supply P (view P J).acts) s.0 T.at T.place m
        → (i : ℕ) (k : Tier) → IsMarkOf P (view P J) i k → IsMarkOf P (note_sent P (note_right P (view P J) s.0 m T (Some q)) s.0 item) i k
    mark_going q item right is i k mark =
        let next = noted_right P (view P J) s m T (Some q) right in
        let owed : IsAllowed IsReady IsAdvance P (note P (view P J) (Got s m)) (Sent s item) = subst (λ (W : View). IsAllowed IsReady IsAdvance P W (Sent s item)) (sym next) (allowed.0, ap (Sent s) is) in
        subst (λ (W : View). IsMarkOf P (note_sent P W s.0 item) i k) next
        (mark_stays_from IsReady IsAdvance P (λ V s x r. r) valid (view P J) (Got s m ∷ Sent s item ∷ []) (reached_sound IsReady IsAdvance P (λ V s x r. r) J orderly) (allowed, (owed, tt)) i k mark)

-- ---- at the start

zero_first : (y : Tier) → pos 0 ≤ℤ y.time → IsUpTo (moment (pos 0)) y
zero_first y h = grind (arith, ints)

pub start_is_mark : (P : Plan) → IsValidPlan P → (s : ℕ) → IsMarkOf P empty_view s (moment (pos 0))
start_is_mark P valid s = record { low = reaches s }
  where
    reaches : (i : ℕ) (y : Tier) → Reach P (start P empty_view) nobody i y → IsUpTo (moment (pos 0)) y
    reaches i y (from_start _ _ out is) = zero_first y (due_not_negative P valid no_acts i y (λ j. tt) (pending_due P no_acts i y is)).0
    reaches i z (along j v _ y _ walk edge out is) = subst (IsUpTo (moment (pos 0))) (sym is) (up_to_trans (moment (pos 0)) y (delayed y v) (reaches j y walk) (delayed_no_earlier y v (edge_width P valid.ranks valid.well_formed.limits.widths (link j v i) edge)))

-- ---- who may be asked is a simulator of the plan

pub ready_below : (P : Plan) (V : View) (s : ℕ) (x : Tier) → IsReady P V s x → s < sim_count P
ready_below P V s x ready = pending_below P V.acts s x ready.at_pending
