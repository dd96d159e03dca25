-- What is kept of every simulator, before any entry and by each.
use Rattle.std.proofs.Common.{◌≡◌, ℕ, zero, suc, ◌+◌, ◌<◌, ◌≤◌, ◌^◌, ℤ, Bool, false, List, [], ◌∷◌, ◌++◌, length, map, Option, Some, None, option_map, unwrap_or, slice_get, slice_set, take, refl, sym, ap, ◌∙◌, subst, inl, inr, arith, if◌then◌else◌}
use Rattle.std.proofs.lemmas.List.{length-map}
use Rattle.mk_base.specs.declared.tier.Tier.{Tier}
use Rattle.mk_base.proofs.Lists.{all_at, none_some, some_same, below_get, length_set, set_here, set_else}
use Rattle.mk_plan.specs.declared.Plan.{Plan}
use Rattle.mk_plan.specs.declared.PlanSim.{PlanSim}
use Rattle.mk_plan.specs.declared.Input.{Input}
use Rattle.mk_plan.specs.declared.Item.{Item}
use Rattle.mk_plan.specs.declared.Item.TheVariants.{Step}
use Rattle.mk_plan.specs.declared.Message.{Message}
use Rattle.mk_plan.specs.declared.Message.TheVariants.{Ask, Success, Failure}
use Rattle.mk_plan.specs.declared.Place.{Place}
use Rattle.mk_plan.specs.Plans.{sim_count, first_id, IsValidPlan}
use Rattle.mk_plan.specs.Acts.{Act, Heard}
use Rattle.mk_plan.specs.Asks.{AskAnswer, Answered, Refused, item_of, answer}
use Rattle.mk_plan.specs.Deliveries.{Supply, supply}
use Rattle.mk_plan.specs.Inputs.{value_at}
use Rattle.mk_plan.specs.Report.{is_step}
use Rattle.mk_plan.specs.Sequential.{grown, response}
use Rattle.mk_plan.specs.Journals.{View, OpenTurn, empty_view, begun, with_open, told_more, ended_turn, note_sent, note_right}
use Rattle.mk_order.proofs.Seen.{at_self, open_after_is}
use Rattle.mk_sched_open.specs.declared.sims.Sim.{Sim}
use Rattle.mk_sched_open.specs.Turns.{IsRight, IsInRun, next_in}
use Rattle.mk_sched_open.specs.Sims.{IsSimOf, IsTurn, AreSimsOf, free_id}
use Rattle.mk_sched_open.specs.inner.Changes.{new_sim, begun_sim, gone_on, open_id, ended_sim}
use Rattle.mk_sched_open.proofs.OneSim.{sim_more, sim_begun, sim_on, sim_ended, open_low, went}
use Rattle.mk_base.proofs.Counts.{same_or_not, not_same, same_self}
use Rattle.mk_base.proofs.Items.{get_map}

-- ---- of a view, they depend on acts and open turns alone, and they hold in longer journals

-- ---- one simulator moves on, and the others stay as they are

module _ (P : Plan) (V W : View) (n m : ℕ) (sims : List Sim) (h : AreSimsOf P V n sims) (le : n ≤ m) (i : ℕ) (s new : Sim) (there : slice_get sims i ≡ Some s) (is : IsSimOf P (W.acts i) (W.open_at i) m i new)
    (acts : (j : ℕ) → (j ≡ i → ⊥) → W.acts j ≡ V.acts j) (opens : (j : ℕ) → (j ≡ i → ⊥) → W.open_at j ≡ V.open_at j) where
  each_set : (j : ℕ) (t : Sim) → slice_get (slice_set sims i new) j ≡ Some t → IsSimOf P (W.acts j) (W.open_at j) m j t
  each_set j t at = elim (same_or_not j i) [
    | inl e ↦
        let same : new ≡ t = some_same (sym (set_here sims i new s there) ∙ subst (λ (k : ℕ). slice_get (slice_set sims i new) k ≡ Some t) e at) in
        subst (λ (k : ℕ). IsSimOf P (W.acts k) (W.open_at k) m k t) (sym e) (subst (λ (z : Sim). IsSimOf P (W.acts i) (W.open_at i) m i z) same is)
    | inr other ↦
        let was : IsSimOf P (V.acts j) (V.open_at j) m j t = sim_more P (V.acts j) (V.open_at j) n m j t le (h.each j t (sym (set_else sims i j new other) ∙ at)) in
        subst (λ (o : Option OpenTurn). IsSimOf P (W.acts j) o m j t) (sym (opens j other)) (subst (λ (l : List Act). IsSimOf P l (V.open_at j) m j t) (sym (acts j other)) was)
  ]

  sims_set : AreSimsOf P W m (slice_set sims i new)
  sims_set = record { count = length_set sims i new ∙ h.count; each = each_set }

-- a right message or an item opens another turn at s, or none
apart : (V : View) (i : ℕ) (o : Option OpenTurn) (j : ℕ) → (j ≡ i → ⊥) → with_open V i o j ≡ V.open_at j
apart V i o j other = ap (λ (b : Bool). if b then o else V.open_at j) (not_same j i other)

-- what follows a message is no Step
pub answer_late : (id : ℕ) (a : AskAnswer) → is_step (item_of id a) ≡ false
answer_late id (Answered content sets) = refl
answer_late id (Refused k) = refl

response_late : (P : Plan) (S : Supply) (i : ℕ) (x : Tier) (p : Place) (m : Message) → is_step (response P S i x p m) ≡ false
response_late P S i x p (Ask k name args named) = answer_late k (answer P (value_at S x) i name args named)
response_late P S i x p (Success k content) = refl
response_late P S i x p (Failure k text) = refl

module _ (P : Plan) (V : View) (n : ℕ) (sims : List Sim) (h : AreSimsOf P V n sims) (i : ℕ) (s : Sim) (there : slice_get sims i ≡ Some s) where
  was : (o : Option OpenTurn) → V.open_at i ≡ o → IsSimOf P (V.acts i) o n i s
  was o is = subst (λ (o : Option OpenTurn). IsSimOf P (V.acts i) o n i s) is (h.each i s there)

  pub begun_sims : (x : Tier) (ins : List Input) (advance : ℤ) → V.open_at i ≡ None → IsInRun x → AreSimsOf P (note_sent P V i (Step x ins advance)) (n + 1) (slice_set sims i (begun_sim s x))
  begun_sims x ins advance closed run = sims_set P V (note_sent P V i (Step x ins advance)) n (n + 1) sims h (omega arith) i s (begun_sim s x) there
      (subst (λ (o : Option OpenTurn). IsSimOf P (V.acts i) o (n + 1) i (begun_sim s x)) (sym (at_self P V i (Some (begun P V i x (Step x ins advance))))) (sim_begun P (V.acts i) n i s x ins advance (was None closed) run))
      (λ j other. refl)
      (apart V i (Some (begun P V i x (Step x ins advance))))

  -- what is counted stays low
  pub heard_low : n ≤ 20000000 → s.heard < 2 ^ 32
  heard_low most = let few : s.heard ≤ n = (h.each i s there).few in omega (arith, most)

  pub ids_low : (T : OpenTurn) → n ≤ 20000000 → V.open_at i ≡ Some T → open_id s.place s.next_id < 2 ^ 32
  ids_low T most is = open_low _ n s T most (was (Some T) is).turn

  module _ (m : Message) (T : OpenTurn) (q : Place) (right : IsRight P V i m T (Some q)) where
    item : Item
    item = response P (supply P V.acts) i T.at T.place m

    -- what is open after the message
    further : Option OpenTurn
    further = Some (record { at = T.at; messages = T.messages ++ m ∷ []; place = q; talk = T.talk ++ Heard m ∷ [] })

    further_open : (note_sent P (note_right P V i m T (Some q)) i item).open_at i ≡ Some (went T m q item)
    unfolding item further
    further_open = at_self P (note_right P V i m T (Some q)) i _
        ∙ open_after_is P (note_right P V i m T (Some q)) i item (response_late P (supply P V.acts) i T.at T.place m)
        ∙ ap (option_map (told_more item)) (at_self P V i further)

    pub gone_sims : AreSimsOf P (note_sent P (note_right P V i m T (Some q)) i (response P (supply P V.acts) i T.at T.place m)) (n + 2) (slice_set sims i (gone_on s q (next_in m)))
    unfolding item further
    gone_sims = sims_set P V (note_sent P (note_right P V i m T (Some q)) i item) n (n + 2) sims h (omega arith) i s (gone_on s q (next_in m)) there
        (subst (λ (o : Option OpenTurn). IsSimOf P (V.acts i) o (n + 2) i (gone_on s q (next_in m))) (sym further_open) (sim_on P (supply P V.acts) (V.acts i) n i s T m q (was (Some T) right.opened) right.goes))
        (λ j other. refl)
        (λ j other. apart (note_right P V i m T (Some q)) i _ j other ∙ apart V i further j other)

  pub ended_sims : (m : Message) (T : OpenTurn) → IsRight P V i m T None → AreSimsOf P (note_right P V i m T None) (n + 1) (slice_set sims i (ended_sim s))
  ended_sims m T right = sims_set P V (note_right P V i m T None) n (n + 1) sims h (omega arith) i s (ended_sim s) there
      (subst (λ (o : Option OpenTurn). IsSimOf P (grown V.acts i (ended_turn T m) i) o (n + 1) i (ended_sim s)) (sym (at_self P V i None))
      (subst (λ (l : List Act). IsSimOf P l None (n + 1) i (ended_sim s)) (sym (ap (λ (b : Bool). if b then V.acts i ++ ended_turn T m ∷ [] else V.acts i) (same_self i)))
      (sim_ended P (V.acts i) n i s T m (was (Some T) right.opened))))
      (λ j other. ap (λ (b : Bool). if b then V.acts j ++ ended_turn T m ∷ [] else V.acts j) (not_same j i other))
      (apart V i None)

-- ---- what is open has the time of its place

module _ (P : Plan) (V : View) (n : ℕ) (sims : List Sim) (h : AreSimsOf P V n sims) (s : ℕ) (low : s < sim_count P) (T : OpenTurn) (is : V.open_at s ≡ Some T) where
  pub opened_turn : (t : Sim) × IsTurn (free_id P s (V.acts s)) n t (Some T)
  opened_turn = let t = below_get sims s (subst (λ (k : ℕ). s < k) (sym h.count) low) in (t.0, subst (IsTurn (free_id P s (V.acts s)) n t.0) is (h.each s t.0 t.1).turn)

-- ---- before any entry

-- before the first step of the simulator
abbrev pub sim_of : PlanSim → Sim
sim_of p = new_sim p.first_id

module _ (P : Plan) (valid : IsValidPlan P) where
  its_sim : (i : ℕ) (s : Sim) → slice_get (map sim_of P.sims) i ≡ Some s → (p : PlanSim) × (slice_get P.sims i ≡ Some p) × (sim_of p ≡ s)
  its_sim i s there = go (slice_get P.sims i) refl (sym (get_map sim_of P.sims i) ∙ there)
    where
      go : (o : Option PlanSim) → slice_get P.sims i ≡ o → option_map sim_of o ≡ Some s → (p : PlanSim) × (slice_get P.sims i ≡ Some p) × (sim_of p ≡ s)
      go None e f = absurd (none_some f)
      go (Some p) e f = (p, e, some_same f)

  first_sim : (i : ℕ) (s : Sim) → slice_get (map sim_of P.sims) i ≡ Some s → IsSimOf P [] None 0 i s
  first_sim i s there =
      let t = its_sim i s there in
      let low : t.0.first_id ≤ 1000000 = all_at (λ (p : PlanSim). p.first_id ≤ 1000000) P.sims i t.0 valid.well_formed.limits.first_ids t.1 in
      let first : first_id P i ≡ t.0.first_id = ap (λ (o : Option PlanSim). unwrap_or (option_map (λ p. p.first_id) o) 0) t.1 in
      subst (IsSimOf P [] None 0 i) t.2 (record { turn = record { place = refl; id = plus_none t.0.first_id (first_id P i) first; few = omega arith }; heard = refl; few = omega arith })
    where
      plus_none : (a b : ℕ) → b ≡ a → a ≡ b + 0
      plus_none a b e = omega arith

  pub new_sims : AreSimsOf P empty_view 0 (map sim_of P.sims)
  new_sims = record { count = length-map P.sims sim_of; each = first_sim }

-- no more simulators
pub take_whole : (sims : List PlanSim) (n : ℕ) → length sims ≤ n → take n sims ≡ sims
take_whole [] zero high = refl
take_whole [] (suc n) high = refl
take_whole (p ∷ sims) zero high = absurd (omega arith)
take_whole (p ∷ sims) (suc n) high = ap (λ (l : List PlanSim). p ∷ l) (take_whole sims n (omega arith))
