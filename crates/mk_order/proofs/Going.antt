-- Somebody is ready, a Step's max_advance is a promise, bounds never fall, and two runs agree.
use Rattle.std.proofs.Common.{◌≡◌, ℕ, ◌<◌, ℤ, pos, ◌-ℤ◌, ◌≤ℤ◌, ◌<ℤ◌, true, List, [], ◌∷◌, Some, None, option_map, sym, ap, ◌∙◌, subst, inl, inr, arith, true≢false}
use Rattle.std.proofs.lemmas.Int.{ints, clamps}
use Rattle.std.specs.Int.{int_min, int_max}
use Rattle.mk_order_any.specs.Parts as theory
use Rattle.mk_order_any.proofs.Progress.{somebody_ready}
use Rattle.mk_order_any.proofs.Promise.{promise_kept}
use Rattle.mk_order_any.proofs.TwoRuns.{two_runs_agree}
use Rattle.mk_order_any.proofs.Marks.{bounds_never_fall}
use Rattle.mk_base.specs.declared.tier.Tier.{Tier}
use Rattle.mk_base.specs.Lists.{IsIn}
use Rattle.mk_base.specs.Tiers.{delayed, up_to, IsBefore, IsUpTo}
use Rattle.mk_base.proofs.TierOrder.{is_up_to, up_to_self, delayed_keeps}
use Rattle.mk_plan.specs.declared.Plan.{Plan}
use Rattle.mk_plan.specs.declared.Conn.{Conn}
use Rattle.mk_plan.specs.declared.Entry.{Entry}
use Rattle.mk_plan.specs.Plans.{sim_count, owner, IsValidPlan}
use Rattle.mk_plan.specs.Acts.{Act, Family, made}
use Rattle.mk_plan.specs.Deliveries.{supply, triggers}
use Rattle.mk_plan.specs.Sequential.{Messages, sequential, all_ended, run_talk, talk_of}
use Rattle.mk_plan.specs.Journals.{View, note}
use Rattle.mk_plan.specs.Walks.{IsEdge, Reach, nobody}
use Rattle.mk_plan.specs.Ready.{pending, start, IsReady}
use Rattle.mk_plan.specs.Advance.{IsComing, IsAdvance, bounded, unbounded, IsPromised}
use Rattle.mk_plan.specs.Orderly.{IsAllowed}
use Rattle.mk_plan.specs.Agreement.{Alike}
use Rattle.mk_order.proofs.Reasons.{in_triggers, triggers_in, triggers_early, edge_of}
use Rattle.mk_order.proofs.RightActs.{made_no_earlier}
use Rattle.mk_order.proofs.Theory.{parts, laws, output_ended}
use Rattle.mk_order.proofs.Seen.{seen, turn_of, reach_seen, reach_back, ready_seen, IsSound, follows}
use Rattle.mk_base.proofs.Bools.{both_hold}

apart : (x y : Tier) → IsBefore x y → x ≡ y → ⊥
apart x y a e = true≢false (sym (up_to_self y) ∙ ap (λ (t : Tier). up_to y t) (sym e) ∙ a)

module _ (P : Plan) (valid : IsValidPlan P) where
  -- ---- progress

  ready_back : (V : View) (s : ℕ) (x : Tier) → V.open_at s ≡ None → theory.Ready (parts P) (seen P V) s x → IsReady P V s x
  ready_back V s x shut r = record { closed = shut; at_pending = r.at_pending; clear = λ j v y l w. r.clear j v y l (reach_back P V nobody j y w) }

  all_shut : (V : View) → ((i : ℕ) → V.open_at i ≡ None) → (i : ℕ) → (seen P V).open_at i ≡ None
  all_shut V shut i = ap (option_map (turn_of P V.owed i)) (shut i)

  -- where nothing is open and something is pending, somebody is ready
  pub some_ready : (V : View) → ((i : ℕ) → V.open_at i ≡ None) → (i : ℕ) (y : Tier) → pending P V.acts i ≡ Some y → (s : ℕ) × (x : Tier) × IsReady P V s x
  some_ready V shut i y is = let t = somebody_ready (parts P) (laws P valid) (seen P V) (all_shut V shut) i y is in (t.0, t.1, ready_back V t.0 t.1 (shut t.0) t.2)

  -- ---- the promise of max_advance

  sooner_time : (x y : Tier) → IsUpTo x y → x.time ≤ℤ y.time
  sooner_time x y h = elim (is_up_to x y h) [ inl e ↦ grind (arith, ints) | inr e ↦ grind (arith, ints) ]

  time_before : (x y : Tier) → x.time <ℤ y.time → IsBefore x y
  time_before x y h = grind (arith, ints)

  lesser : (u t e d : ℤ) → t <ℤ d → e ≤ℤ d → int_min u (int_max t (e -ℤ pos 1)) <ℤ d
  lesser u t e d h k = grind (arith, ints, clamps)

  module _ (V : View) (is_reached : theory.Reached (parts P) (seen P V)) (s : ℕ) (x : Tier) (ready : IsReady P V s x) (R : Messages)
      (on : (i : ℕ) → i < sim_count P → theory.Prefix (theory.heard_of (parts P) (seen P V) i) (R i)) (over : R s ≡ theory.heard_of (parts P) (seen P V) s) where
    -- each trigger after the Step has something at or before it that is coming
    comes : (d : Tier) → IsIn d (triggers P (supply P (sequential P R)) s) → x.time <ℤ d.time → (e : Tier) × IsComing P V s x e × (e.time ≤ℤ d.time)
    unfolding theory.seq
    comes d m late =
        let t = in_triggers P (sequential P R) s d m in
        let c : Conn = t.0 in
        let a : Act = t.2.0 in
        let edge : IsEdge P (owner P c.from) c.via s = edge_of P c s t.1 in
        let after : up_to (delayed a.at c.via) d ≡ true = subst (λ (y : Tier). up_to (delayed a.at c.via) y ≡ true) (sym t.2.2.2) (delayed_keeps a.at (made a) c.via (made_no_earlier a)) in
        let k = promise_kept (parts P) (laws P valid) (seen P V) is_reached s x (ready_seen P V s x ready) R on over (owner P c.from) c.via a d edge t.2.1 (output_ended P a c.from c.from_attr t.2.2.0 t.2.2.1) after in
        elim k [
          | inl known ↦ (d, inl (triggers_in P V.acts s d c a t.2.2.0 t.1 known t.2.2.1 t.2.2.2 (triggers_early P (sequential P R) s d m), time_before x d late), sooner_time d d (up_to_self d))
          | inr o ↦ (o.0, inr (record { from = o.1.origin; via = o.1.via; at = o.1.time; edge = o.1.edge; walk = reach_seen P V (λ i. i ≡ s) o.1.origin o.1.time o.1.walked; is = o.1.is }), sooner_time o.0 d o.2)
        ]

    -- nothing triggers s after its time and up to max_advance
    pub promised : (m : ℤ) → IsAdvance P V s x m → IsPromised P R s x.time m
    promised m (bounded d _ coming least is) e n late = let t = comes e n late in
        subst (λ (k : ℤ). k <ℤ e.time) (sym is) (lesser P.until x.time d.time e.time late (let l : d.time ≤ℤ t.0.time = least t.0 t.1 in let k : t.0.time ≤ℤ e.time = t.2 in let r : d.time ≤ℤ e.time = grind (arith, ints) in r))
    promised m (unbounded _ none is) e n late = let t = comes e n late in absurd (none t.0 t.1)

  -- max_advance is from the step's time to the run's end
  pub advance_between : (V : View) (s : ℕ) (x : Tier) (m : ℤ) → x.time ≤ℤ P.until → IsAdvance P V s x m → (x.time ≤ℤ m) × (m ≤ℤ P.until)
  advance_between V s x m low (bounded d _ coming least is) = rw is (clamped P.until x.time (d.time -ℤ pos 1) low)
    where
      clamped : (u t e : ℤ) → t ≤ℤ u → (t ≤ℤ int_min u (int_max t e)) × (int_min u (int_max t e) ≤ℤ u)
      clamped u t e h = (grind (arith, ints, clamps), grind (arith, ints, clamps))
  advance_between V s x m low (unbounded _ none is) = rw is (low, grind (arith, ints))

  -- ---- two runs

  pub every_ended : (acts : List Act) → all_ended acts ≡ true → theory.Every (λ (a : Act). a.ended ≡ true) acts
  every_ended [] h = tt
  every_ended (a ∷ acts) h = let t = both_hold a.ended (all_ended acts) h in (t.0, every_ended acts t.1)

  -- two runs in which each turn ends, and that are alike, are the same
  pub same_runs : (R Q : Messages) → ((i : ℕ) → i < sim_count P → all_ended (sequential P R i) ≡ true) → ((i : ℕ) → i < sim_count P → all_ended (sequential P Q i) ≡ true) → Alike P R Q → (i : ℕ) → run_talk P R i ≡ run_talk P Q i
  unfolding theory.seq
  same_runs R Q whole whole' alike i = ap (λ (A : Family). talk_of (A i)) (two_runs_agree (parts P) (laws P valid) R Q (λ j h. every_ended (sequential P R j) (whole j h)) (λ j h. every_ended (sequential P Q j) (whole' j h)) alike)

  -- ---- bounds

  -- an allowed entry lets no bound fall
  pub bounds_rise : (Ready : Plan → View → ℕ → Tier → Type 0) (Advance : Plan → View → ℕ → Tier → ℤ → Type 0) (truly : (V : View) (s : ℕ) (x : Tier) → Ready P V s x → IsReady P V s x) (V : View) (e : Entry) → IsSound V → IsAllowed Ready Advance P V e
      → (i : ℕ) (y : Tier) → Reach P (start P (note P V e)) nobody i y → (z : Tier) × Reach P (start P V) nobody i z × IsUpTo z y
  bounds_rise Ready Advance truly V e sound allowed i y walk =
      let there : theory.Reach (parts P) (seen P (note P V e)) nobody i y = reach_back P (note P V e) nobody i y walk in
      elim (follows Ready Advance P truly V e sound allowed).0 [
        | inl moves ↦ let t = bounds_never_fall (parts P) (laws P valid) (seen P V) (seen P (note P V e)) moves i y there in (t.0, reach_seen P V nobody i t.0 t.1, t.2)
        | inr still ↦ (y, reach_seen P V nobody i y (subst (λ (W : theory.View (parts P)). theory.Reach (parts P) W nobody i y) still there), up_to_self y)
      ]
