-- No unknown turn starts before the bounds, and nothing new comes to a simulator that is ready.
use Rattle.std.proofs.Common.{◌≡◌, ℕ, true, false, List, ◌++◌, None, sym, ap, ◌∙◌, subst, inl, inr, true≢false}
use Rattle.mk_order_any.specs.Parts as theory
use Rattle.mk_order_any.proofs.Lists.{cancel, in_append}
use Rattle.mk_order_any.proofs.Talks.{everywhere}
use Rattle.mk_order_any.proofs.Bounds.{nothing_before_bounds, nothing_new_for_ready}
use Rattle.mk_order_any.proofs.Invariant.{Agreeing, begun_of}
use Rattle.mk_order_any.proofs.Silent.{known, silent}
use Rattle.mk_base.specs.declared.tier.Tier.{Tier}
use Rattle.mk_base.specs.declared.tier.Via.{Via}
use Rattle.mk_base.specs.Lists.{IsIn}
use Rattle.mk_base.specs.Tiers.{delayed, up_to, IsUpTo, IsBefore}
use Rattle.mk_base.proofs.TierOrder.{up_to_trans, delayed_keeps}
use Rattle.mk_base.proofs.Lists.{in_each}
use Rattle.mk_plan.specs.declared.Plan.{Plan}
use Rattle.mk_plan.specs.declared.Entry.{Entry}
use Rattle.mk_plan.specs.declared.Conn.{Conn}
use Rattle.mk_plan.specs.Plans.{owner, IsValidPlan}
use Rattle.mk_plan.specs.Acts.{Act, Family, made}
use Rattle.mk_plan.specs.Deliveries.{supply, triggers}
use Rattle.mk_plan.specs.Sequential.{Messages, sequential, next_step, response}
use Rattle.mk_plan.specs.Journals.{view, got}
use Rattle.mk_plan.specs.Walks.{IsLink, Reach}
use Rattle.mk_plan.specs.Ready.{start, IsReady}
use Rattle.mk_plan.specs.Advance.{IsAdvance}
use Rattle.mk_plan.specs.Orderly.{IsOrderlySoFar}
use Rattle.mk_plan.specs.Agreement.{Continues}
use Rattle.mk_order.specs.LowerBound.{IsUnknown, IsBounded, HasAll}
use Rattle.mk_order.proofs.Reasons.{in_triggers, triggers_in, triggers_early, edge_of}
use Rattle.mk_order.proofs.RightActs.{made_no_earlier}
use Rattle.mk_order.proofs.LateActs.{AllLate, step_same, response_same}
use Rattle.mk_order.specs.Supplies.{followed}
use Rattle.mk_order.proofs.Theory.{parts, laws, edge_link, seq_is}
use Rattle.mk_order.proofs.Seen.{seen, reach_seen, ready_seen, reached}
use Rattle.mk_order.proofs.Told.{heard_seen, got_is}
use Rattle.mk_order.proofs.Agreeing.{goes_on}

module _ (P : Plan) (valid : IsValidPlan P) (J : List Entry) (orderly : IsOrderlySoFar IsReady IsAdvance P J) where
  its : theory.Reached (parts P) (seen P (view P J))
  its = reached IsReady IsAdvance P (λ V s x r. r) J orderly

  module _ (R : Messages) (on : Continues P J R) where
    cont : (i : ℕ) → theory.Prefix (theory.heard_of (parts P) (seen P (view P J)) i) (R i)
    cont = everywhere (parts P) (laws P valid) (seen P (view P J)) its R (goes_on IsReady IsAdvance P (λ V s x r. r) valid J orderly R on)

    agreed : Agreeing (parts P) (laws P valid) (theory.seq (parts P) R) (view P J).acts (seen P (view P J)).open_at
    agreed = known (parts P) (laws P valid) (seen P (view P J)) its R cont

    -- the acts that are not known
    unknown : Family
    unknown i = (agreed.known i).0

    unknown_is : (i : ℕ) → sequential P R i ≡ (view P J).acts i ++ unknown i
    unfolding unknown agreed
    unknown_is i = ap (λ (A : Family). A i) (sym (seq_is P R)) ∙ (agreed.known i).1

    in_unknown : (i : ℕ) (u : Act) → IsUnknown P (view P J) R i u → IsIn u (unknown i)
    in_unknown i u w = subst (λ (l : List Act). IsIn u l) (cancel ((view P J).acts i) w.later (unknown i) (sym w.parts ∙ unknown_is i)) w.there

    pub bounded_from : (view P J).fault ≡ None → (Z : ℕ → Type 0) → ((i : ℕ) → Z i → R i ≡ got J i) → (i : ℕ) (u : Act) → (Z i → ⊥) → IsUnknown P (view P J) R i u
        → (y : Tier) × Reach P (start P (view P J)) Z i y × IsUpTo y u.at
    unfolding unknown agreed
    bounded_from fine Z over i u out w =
        let V : theory.View (parts P) = seen P (view P J) in
        let still : (z : ℕ) → Z z → theory.Every (λ (a : Act). a.ended ≡ false) (unknown z) =
        (λ z h. silent (parts P) (laws P valid) V its R cont z (over z h ∙ got_is IsReady IsAdvance P (λ V s x r. r) J orderly fine z ∙ sym (heard_seen P (view P J) z))) in
        let t = nothing_before_bounds (parts P) (laws P valid) R V unknown (λ j. (agreed.known j).1) (begun_of (parts P) (laws P valid) R V agreed) Z still i u (in_unknown i u w) out in
        (t.0, reach_seen P (view P J) Z i t.0 t.1, t.2)

    module _ (s : ℕ) (x : Tier) (ready : IsReady P (view P J) s x) where
      late : AllLate P s x unknown
      unfolding unknown agreed
      late i = nothing_new_for_ready (parts P) (laws P valid) R (seen P (view P J)) unknown (λ j. (agreed.known j).1) (begun_of (parts P) (laws P valid) R (seen P (view P J)) agreed) s x (ready_seen P (view P J) s x ready) i

      all_acts : (i : ℕ) → followed (view P J).acts unknown i ≡ sequential P R i
      all_acts i = sym (unknown_is i)

      whole : followed (view P J).acts unknown ≡ sequential P R
      whole = λ k i. all_acts i k

      pub has_all : HasAll P (view P J) R s x
      has_all = record {
        turns = λ i u w v link. in_each (λ (a : Act). (v : Via) → IsLink P i v s → IsBefore x (delayed a.at v)) u (unknown i) (late i) (in_unknown i u w) v link;
        triggered = old;
        step = λ acts. ap (λ (A : Family). next_step P (supply P A) s x acts) (sym whole) ∙ step_same P s x unknown late (view P J).acts acts;
        answers = λ o m. ap (λ (A : Family). response P (supply P A) s x o m) (sym whole) ∙ response_same P s x unknown late (view P J).acts o m;
      }
        where
          old : (d : Tier) → IsIn d (triggers P (supply P (sequential P R)) s) → IsUpTo d x → IsIn d (triggers P (supply P (view P J).acts) s)
          old d m early =
              let t = in_triggers P (sequential P R) s d m in
              let c : Conn = t.0 in
              let a : Act = t.2.0 in
              let there : IsIn a ((view P J).acts (owner P c.from) ++ unknown (owner P c.from)) = subst (λ (l : List Act). IsIn a l) (unknown_is (owner P c.from)) t.2.1 in
              elim (in_append a ((view P J).acts (owner P c.from)) (unknown (owner P c.from)) there) [
                | inl k ↦ triggers_in P (view P J).acts s d c a t.2.2.0 t.1 k t.2.2.1 t.2.2.2 (triggers_early P (sequential P R) s d m)
                | inr n ↦
                    let past : IsBefore x (delayed a.at c.via) = in_each (λ (b : Act). (v : Via) → IsLink P (owner P c.from) v s → IsBefore x (delayed b.at v)) a (unknown (owner P c.from)) (late (owner P c.from)) n c.via
                    (edge_link P (owner P c.from) c.via s (edge_of P c s t.1)) in
                    let up : up_to (delayed a.at c.via) x ≡ true = up_to_trans (delayed a.at c.via) d x (subst (λ (y : Tier). up_to (delayed a.at c.via) y ≡ true) (sym t.2.2.2) (delayed_keeps a.at (made a) c.via (made_no_earlier a))) early in
                    absurd (true≢false (sym up ∙ past))
              ]

  -- for a set that is given by a test
  pub bounded_below : (view P J).fault ≡ None → IsBounded P J
  bounded_below fine R Z on over i u out w = bounded_from R on fine (λ j. Z j ≡ true) over i u (λ h. true≢false (sym h ∙ out)) w
