-- The moments of what was sent, with the next Step of a simulator.
use Rattle.std.proofs.Common.{◌≡◌, ℕ, suc, ◌+◌, ◌≤◌, ℤ, Bool, List, [], ◌∷◌, ◌++◌, length, map, filter, filter_map, Option, Some, if◌then◌else◌, inl, inr, refl, sym, ap, ◌∙◌, subst, arith, append_assoc}
use Rattle.mk_base.specs.declared.tier.Tier.{Tier}
use Rattle.mk_base.specs.Lists.{BeginsWith, IsIn}
use Rattle.mk_base.proofs.Lists.{append_nil, filter_append, filter_map_append, map_append}
use Rattle.mk_plan.specs.declared.Entry.{Entry}
use Rattle.mk_plan.specs.declared.Input.{Input}
use Rattle.mk_plan.specs.declared.Item.{Item}
use Rattle.mk_plan.specs.declared.Item.TheVariants.{Step, GetData, Answer, Refuse}
use Rattle.mk_plan.specs.Journals.{sent}
use Rattle.mk_plan.specs.Report.{is_step}
use Rattle.mk_outside.specs.declared.fleet.LogEntry.{LogEntry}
use Rattle.mk_outside.specs.declared.fleet.LogEntry.TheVariants.{Told}
use Rattle.mk_pace_laws.specs.declared.end.Moment.{Moment}
use Rattle.mk_pace_laws.specs.Clocks.{last_told}
use Rattle.mk_pace_laws.specs.Moments.{AreMoments, Tempo, is_of, moment_at, moments_of, step_time}
use Rattle.mk_pace_laws.proofs.Ordering.{in_order_pushed}
use Rattle.mk_base.proofs.Items.{each_behind, length_map, same_heads}
use Rattle.mk_base.proofs.Counts.{not_same, same_or_not, same_self}

-- ---- lists

-- beginnings of the same length
same_front : {X : Type 0} (a b c d : List X) → a ++ b ≡ c ++ d → length a ≡ length c → (a ≡ c) × (b ≡ d)
same_front [] b [] d e long = (refl, e)
same_front [] b (z ∷ c) d e long = absurd (omega (arith, long))
same_front (x ∷ a) b [] d e long = absurd (omega (arith, long))
same_front (x ∷ a) b (z ∷ c) d e long =
    let t = same_front a b c d (same_heads e).1 (omega (arith, long)) in
    let first : x ≡ z = (same_heads e).0 in
    ((λ i. first i ∷ t.0 i), t.1)

-- each Step has one time
step_times : (items : List Item) → length (filter_map step_time items) ≡ length (filter is_step items)
step_times [] = refl
step_times (Step x inputs advance ∷ items) = ap suc (step_times items)
step_times (GetData wanted ∷ items) = step_times items
step_times (Answer id content ∷ items) = step_times items
step_times (Refuse id reason ∷ items) = step_times items

-- ---- the moments of one simulator

pub moments_here : (moments : List Moment) (m : Moment) → moments_of m.sim.0 (moments ++ m ∷ []) ≡ moments_of m.sim.0 moments ++ m ∷ []
moments_here moments m = filter_append (is_of m.sim.0) moments (m ∷ []) ∙ ap (λ (b : Bool). moments_of m.sim.0 moments ++ (if b then m ∷ [] else [])) (same_self m.sim.0)

pub moments_away : (moments : List Moment) (m : Moment) (i : ℕ) → (i ≡ m.sim.0 → ⊥) → moments_of i (moments ++ m ∷ []) ≡ moments_of i moments
moments_away moments m i apart = filter_append (is_of i) moments (m ∷ []) ∙ ap (λ (b : Bool). moments_of i moments ++ (if b then m ∷ [] else [])) (not_same m.sim.0 i (λ e. apart (sym e))) ∙ append_nil (moments_of i moments)

module _ (T : Tempo) (strict : Option ℕ) (J : List Entry) (log : List LogEntry) (moments : List Moment) (m : Moment) (queued more : List Item) (inputs : List Input) (advance : ℤ) (are : AreMoments T strict J log moments)
    (count : length (moments_of m.sim.0 moments) ≡ length (filter is_step queued)) (next : sent J m.sim.0 ≡ queued ++ Step m.at inputs advance ∷ more) where
  -- the next Step's time comes behind those of the Steps that were sent
  steps_here : BeginsWith (filter_map step_time (sent J m.sim.0)) (map (λ (k : Moment). k.at) (moments_of m.sim.0 (moments ++ m ∷ [])))
  steps_here =
      let s : ℕ = m.sim.0 in
      let times : List Tier = map (λ (k : Moment). k.at) (moments_of s moments) in
      let all : filter_map step_time (sent J s) ≡ filter_map step_time queued ++ (m.at ∷ filter_map step_time more) = ap (filter_map step_time) next ∙ filter_map_append step_time queued (Step m.at inputs advance ∷ more) in
      let old = are.steps s in
      let long : length times ≡ length (filter_map step_time queued) = length_map (λ (k : Moment). k.at) (moments_of s moments) ∙ count ∙ sym (step_times queued) in
      let parts = same_front times old.0 (filter_map step_time queued) (m.at ∷ filter_map step_time more) (sym old.1 ∙ all) long in (
        filter_map step_time more,
        old.1 ∙ ap (λ (l : List Tier). times ++ l) parts.1 ∙ sym (ap (λ (l : List Moment). map (λ (k : Moment). k.at) l ++ filter_map step_time more) (moments_here moments m)
            ∙ ap (λ (l : List Tier). l ++ filter_map step_time more) (map_append (λ (k : Moment). k.at) (moments_of s moments) (m ∷ [])) ∙ append_assoc times (m.at ∷ []) (filter_map step_time more)),
      )

  steps_away : (i : ℕ) → (i ≡ m.sim.0 → ⊥) → BeginsWith (filter_map step_time (sent J i)) (map (λ (k : Moment). k.at) (moments_of i (moments ++ m ∷ [])))
  steps_away i apart = subst (λ (l : List Moment). BeginsWith (filter_map step_time (sent J i)) (map (λ (k : Moment). k.at) l)) (sym (moments_away moments m i apart)) (are.steps i)

  -- the moment of the next Step is noted, at the last look at the clock
  pub noted : m.moment ≡ moment_at T m.at.time → m.moment ≤ m.told → IsIn (Told m.told) log → ((allowed : ℕ) → strict ≡ Some allowed → m.told ≤ m.moment + allowed) → m.told ≡ last_told log → AreMoments T strict J log (moments ++ m ∷ [])
  noted is due there in_time last = record {
    steps = λ i. elim (same_or_not i m.sim.0) [
      | inl e ↦ subst (λ (k : ℕ). BeginsWith (filter_map step_time (sent J k)) (map (λ (k : Moment). k.at) (moments_of k (moments ++ m ∷ [])))) (sym e) steps_here
      | inr apart ↦ steps_away i apart
    ];
    moment = each_behind (λ (k : Moment). k.moment ≡ moment_at T k.at.time) moments m are.moment is;
    due = each_behind (λ (k : Moment). k.moment ≤ k.told) moments m are.due due;
    told = each_behind (λ (k : Moment). IsIn (Told k.told) log) moments m are.told there;
    in_time = λ allowed bound. each_behind (λ (k : Moment). k.told ≤ k.moment + allowed) moments m (are.in_time allowed bound) (in_time allowed bound);
    in_order = in_order_pushed log moments m are.told last are.in_order;
  }
