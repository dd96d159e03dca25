-- What waits first of a simulator, and a run in which a Step was sent and not yet what stands behind it.
use Rattle.std.proofs.Common.{◌≡◌, inl, inr, ℕ, ◌<◌, ℤ, List, [], ◌∷◌, ◌++◌, length, Option, Some, None, option_map, slice_get, refl, sym, ap, ◌∙◌, subst}
use Rattle.std.specs.Bool.{⊤}
use Rattle.mk_base.specs.declared.SimNo.{SimNo}
use Rattle.mk_base.proofs.Lists.{get_is, none_some, some_same}
use Rattle.mk_plan.specs.declared.Entry.{Entry}
use Rattle.mk_plan.specs.declared.Input.{Input}
use Rattle.mk_plan.specs.declared.Item.{Item}
use Rattle.mk_plan.specs.declared.Item.TheVariants.{Step, GetData, Answer, Refuse}
use Rattle.mk_plan.specs.declared.Plan.{Plan}
use Rattle.mk_plan.specs.Journals.{sent}
use Rattle.mk_outside.specs.declared.fleet.LogEntry.{LogEntry}
use Rattle.mk_local.specs.Simulators.{Simulator}
use Rattle.mk_run_laws.specs.Crews.{CrewState}
use Rattle.mk_run.specs.inner.Underway.{Setting}
use Rattle.mk_pace_held.specs.declared.held.Due.{Due}
use Rattle.mk_pace_held.specs.declared.held.First.{First}
use Rattle.mk_pace_held.specs.declared.held.Held.{Held}
use Rattle.mk_pace_held.specs.Firsts.{IsFirst, first_at}
use Rattle.mk_pace_laws.specs.declared.end.Moment.{Moment}
use Rattle.mk_pace_laws.specs.Moments.{Tempo, moment_at}
use Rattle.mk_pace_loop.specs.inner.Pacing.{AreHeldItems, BeginsWithStep, IsHeldItem, IsHolding, IsPacing, IsPacingBut, IsPacingFor}
use Rattle.mk_pace_loop.specs.inner.Waiting.{DueAs, waiting_seen}
use Rattle.mk_base.proofs.Counts.{same_or_not}
use Rattle.mk_base.proofs.Items.{same_heads}

-- behind what was queued of simulator s this item waits first, and then the rest
pub record IsFront (P : Plan) (T : Tempo) (J : List Entry) (s : ℕ) (queued waiting : List Item) (h : Held) (q : List Held) (item : Item) (rest : List Item) : Type 0 where
  pub waits : waiting ≡ item ∷ rest
  pub items : sent J s ≡ queued ++ item ∷ rest
  pub is : IsHeldItem P T J s queued h item
  pub are : AreHeldItems P T J s (queued ++ item ∷ []) q rest

pub front_is : (P : Plan) (T : Tempo) (J : List Entry) (holds : List (List Held)) (s : ℕ) (queued : List Item) (h : Held) (q : List Held) (hold : IsHolding P T J holds s queued) → slice_get holds s ≡ Some (h ∷ q)
    → (item : Item) × (rest : List Item) × IsFront P T J s queued hold.waiting h q item rest
front_is P T J holds s queued h q hold there = go hold.waiting hold.items (subst (λ (l : List Held). AreHeldItems P T J s queued l hold.waiting) (some_same (sym hold.there ∙ there)) hold.are)
  where
    go : (waiting : List Item) → sent J s ≡ queued ++ waiting → AreHeldItems P T J s queued (h ∷ q) waiting → (item : Item) × (rest : List Item) × IsFront P T J s queued waiting h q item rest
    go [] items are = absurd are
    go (item ∷ rest) items are = (item, rest, record { waits = refl; items = items; is = are.0; are = are.1 })

-- ---- what is due is a Step

pub record IsStepDue (T : Tempo) (item : Item) (d : Due) : Type 0 where
  pub inputs : List Input
  pub advance : ℤ
  pub item_is : item ≡ Step d.at inputs advance
  pub moment_is : d.moment ≡ moment_at T d.at.time

pub due_step : (T : Tempo) (item : Item) (d : Due) → DueAs T item (Some d) → IsStepDue T item d
due_step T (Step x inputs advance) d due =
    let same : d ≡ record { at = x; moment = moment_at T x.time } = some_same due in
    subst (λ (e : Due). IsStepDue T (Step x inputs advance) e) (sym same) (record { inputs = inputs; advance = advance; item_is = refl; moment_is = refl })
due_step T (GetData wanted) d due = absurd (none_some (sym due))
due_step T (Answer id content) d due = absurd (none_some (sym due))
due_step T (Refuse id reason) d due = absurd (none_some (sym due))

-- ---- the Step that waits first of all

pub record IsFirstOf (f : First) (q : List Held) : Type 0 where
  pub held : Held
  pub rest : List Held
  pub is : q ≡ held ∷ rest
  pub place : held.place ≡ f.place
  pub due : held.due ≡ Some f.due

pub first_parts : (s : SimNo) (q : List Held) (f : First) → first_at s q ≡ Some f → IsFirstOf f q
first_parts s [] f e = absurd (none_some e)
first_parts s (h ∷ rest) f e = go h.due refl e
  where
    go : (o : Option Due) → h.due ≡ o → option_map (λ (d : Due). record { sim = s; place = h.place; due = d }) o ≡ Some f → IsFirstOf f (h ∷ rest)
    go None is e = absurd (none_some e)
    go (Some d) is e = record { held = h; rest = rest; is = refl; place = ap (λ (g : First). g.place) (some_same e); due = is ∙ ap (λ (g : First). Some g.due) (some_same e) }

-- it is the one that is taken
pub first_taken : (f : First) (holds : List (List Held)) (h : Held) (q : List Held) → IsFirst f holds → slice_get holds f.sim.0 ≡ Some (h ∷ q) → h.due ≡ Some f.due
first_taken f holds h q first there =
    let t = first_parts f.sim first.items f first.here in
    let same : h ∷ q ≡ t.held ∷ t.rest = some_same (sym there ∙ first.there) ∙ t.is in
    ap (λ (g : Held). g.due) (same_heads same).0 ∙ t.due

pub first_some : (f : First) (holds : List (List Held)) → IsFirst f holds → slice_get holds f.sim.0 ≡ Some [] → ⊥
first_some f holds first there =
    let t = first_parts f.sim first.items f first.here in
    none_left (some_same (sym there ∙ first.there) ∙ t.is)
  where
    none_left : {x : Held} {xs : List Held} → [] ≡ x ∷ xs → ⊥
    none_left e = cc

pub first_below : (f : First) (holds : List (List Held)) → IsFirst f holds → f.sim.0 < length holds
first_below f holds first = (get_is holds f.sim.0 first.items first.there).0

-- ---- a run, and the same but for one simulator

abbrev as_it_is : (some all : ℕ → Type 0) (S : Setting) (T : Tempo) (strict : Option ℕ) (P : Plan) (J : List Entry) (log : List LogEntry) (C : CrewState) (sims : List (Option Simulator)) (holds : List (List Held)) (moments : List Moment)
    → IsPacingFor some S P J log C sims (waiting_seen T strict holds moments) → ((i : ℕ) (q : List Held) → all i → slice_get holds i ≡ Some q → BeginsWithStep q) → IsPacingFor all S P J log C sims (waiting_seen T strict holds moments)
as_it_is some all S T strict P J log C sims holds moments p steps = record {
  suits = p.suits;
  stands = p.stands;
  patient = p.patient;
  in_range = p.in_range;
  no_fault = p.no_fault;
  count = p.count;
  queued = p.queued;
  holding = p.holding;
  steps = steps;
  fit = p.fit;
  channels = p.channels;
  no_channel = p.no_channel;
  no_other = p.no_other;
  kept = p.kept;
  kinds = p.kinds;
  come = p.come;
  only_within = p.only_within;
  setup_rests = p.setup_rests;
  on_links = p.on_links;
  origin = p.origin;
  told = p.told;
  timely = p.timely;
  moments_are = p.moments_are;
  counts = p.counts;
  replied = p.replied;
  naps = p.naps;
  looks = p.looks;
}

module _ (s : ℕ) (S : Setting) (T : Tempo) (strict : Option ℕ) (P : Plan) (J : List Entry) (log : List LogEntry) (C : CrewState) (sims : List (Option Simulator)) (holds : List (List Held)) (moments : List Moment) where
  pub but_one : IsPacing S P J log C sims (waiting_seen T strict holds moments) → IsPacingBut s S P J log C sims (waiting_seen T strict holds moments)
  but_one p = as_it_is (λ i. ⊤) (λ i. i ≡ s → ⊥) S T strict P J log C sims holds moments p (λ i q apart there. p.steps i q tt there)

  -- all was sent that stands right behind the Step
  pub all_again : (q : List Held) → slice_get holds s ≡ Some q → BeginsWithStep q → IsPacingBut s S P J log C sims (waiting_seen T strict holds moments) → IsPacing S P J log C sims (waiting_seen T strict holds moments)
  all_again q there step p = as_it_is (λ i. i ≡ s → ⊥) (λ i. ⊤) S T strict P J log C sims holds moments p (λ i r all at. elim (same_or_not i s) [
    | inl e ↦ subst BeginsWithStep (some_same (sym there ∙ ap (slice_get holds) (sym e) ∙ at)) step
    | inr apart ↦ p.steps i r apart at
  ])
