-- An item was sent by the crew: what that keeps of the simulators within the program and of the
-- channels.
use Rattle.std.proofs.Common.{◌≡◌, inl, inr, ℕ, true, false, List, [], ◌∷◌, ◌++◌, map, Option, Some, is_some, sym, ap, ◌∙◌, subst, true≢false}
use Rattle.mk_base.proofs.Lists.{some_same}
use Rattle.mk_plan.specs.declared.Item.{Item}
use Rattle.mk_plan.specs.declared.Message.{Message}
use Rattle.mk_plan.specs.Journals.{bare}
use Rattle.mk_plan.specs.Sequential.{id_after}
use Rattle.mk_local.specs.Replies.{item_reply, after_item}
use Rattle.mk_local.specs.Simulators.{Simulator}
use Rattle.mk_run_laws.specs.Handshake.{setup_count, is_within}
use Rattle.mk_run_laws.specs.Crews.{IsSentWithin}
use Rattle.mk_run_local.specs.Laws.{HasCome, RepliesAreKinds}
use Rattle.mk_run_local.specs.Made.{kind_reply_of}
use Rattle.mk_run_crew.specs.Seen.{CrewSeen, crew_of, is_here}
use Rattle.mk_run_crew.specs.Calls.{SendsAs}
use Rattle.mk_run.specs.inner.Underway.{Setting, reply_in, HasNoOther, HaveComeBy, IsOnlyWithin, local_at}
use Rattle.mk_run.proofs.Linked.{local_set_here, local_set_away, no_other_same, no_other_sent}
use Rattle.mk_base.proofs.Bools.{true_or_false}
use Rattle.mk_base.proofs.Counts.{same_or_not}

pub some_here : {X : Type 0} (o : Option X) (x : X) → o ≡ Some x → is_some o ≡ true
some_here o x e = ap (λ (p : Option _). is_some p) e

pub here_is_within : (T : Setting) (sims : List (Option Simulator)) (i : ℕ) → IsOnlyWithin T sims → is_some (local_at sims i) ≡ true → is_within T.scenario i ≡ true
here_is_within T sims i only here = elim (true_or_false (is_within T.scenario i)) [
  | inl inside ↦ inside
  | inr outside ↦ absurd (true≢false (sym here ∙ ap (λ (o : Option Simulator). is_some o) (only i outside)))
]

pub not_here_is_outside : (T : Setting) (X : ℕ → List Item) (sims : List (Option Simulator)) (i : ℕ) → HaveComeBy T X sims → is_some (local_at sims i) ≡ false → is_within T.scenario i ≡ false
not_here_is_outside T X sims i come away = elim (true_or_false (is_within T.scenario i)) [
  | inl inside ↦ let t = come i inside in absurd (true≢false (sym (some_here (local_at sims i) t.0 t.1) ∙ away))
  | inr outside ↦ outside
]

-- by other names of the items
pub come_as : (T : Setting) (X Y : ℕ → List Item) (sims : List (Option Simulator)) → ((i : ℕ) → X i ≡ Y i) → HaveComeBy T X sims → HaveComeBy T Y sims
come_as T X Y sims same come i inside = let t = come i inside in (t.0, t.1, subst (λ (items : List Item). HasCome T.rows T.scenario i items t.0) (same i) t.2)

module _ (T : Setting) (law : RepliesAreKinds) (X Y : ℕ → List Item) (s : ℕ) (item : Item) (id : ℕ) (C D : CrewSeen) (more : Y s ≡ X s ++ item ∷ []) (stay : (i : ℕ) → (i ≡ s → ⊥) → Y i ≡ X i)
    (come : HaveComeBy T X C.sims) (only : IsOnlyWithin T C.sims) (right : is_here C s ≡ true → id ≡ id_after (setup_count T.scenario s) (X s)) (so : SendsAs s item id C D) where
  -- where it went to a simulator within the program, the reply is its kind's, and it has come on
  module _ (here : is_here C s ≡ true) where
    abbrev inside : is_within T.scenario s ≡ true
    inside = here_is_within T C.sims s only here

    abbrev before : Simulator
    before = (come s inside).0

    same_sim : (so.within here).sim ≡ before
    same_sim = some_same (sym (so.within here).there ∙ (come s inside).1)

    by_law : ((so.within here).reply ≡ kind_reply_of T.rows T.scenario s (map bare (X s ++ item ∷ []))) × HasCome T.rows T.scenario s (X s ++ item ∷ []) (after_item before item)
    by_law = law T.rows T.scenario s (X s) before (come s inside).2 item (so.within here).reply
        (subst (λ (n : ℕ). item_reply before n item ≡ Some (so.within here).reply) (right here) (subst (λ (L : Simulator). item_reply L id item ≡ Some (so.within here).reply) same_sim (so.within here).replied))

    pub kept_so : (is_within T.scenario s ≡ true) × IsSentWithin s (reply_in T s (map bare (Y s))) (crew_of C) (crew_of D)
    kept_so = (inside, subst (λ (m : Message). IsSentWithin s m (crew_of C) (crew_of D)) (by_law.0 ∙ ap (λ (items : List Item). reply_in T s (map bare items)) (sym more)) (so.within here).kept)

    now_here : local_at D.sims s ≡ Some (after_item before item)
    now_here = ap (λ (l : List (Option Simulator)). local_at l s) (so.within here).sims ∙ local_set_here C.sims s (so.within here).sim (after_item (so.within here).sim item) (so.within here).there
        ∙ ap (λ (L : Simulator). Some (after_item L item)) same_sim

    others : (i : ℕ) → (i ≡ s → ⊥) → local_at D.sims i ≡ local_at C.sims i
    others i apart = ap (λ (l : List (Option Simulator)). local_at l i) (so.within here).sims ∙ local_set_away C.sims s i (after_item (so.within here).sim item) apart

    come_within : HaveComeBy T Y D.sims
    come_within i within = elim (same_or_not i s) [
      | inl q ↦ subst (λ (j : ℕ). (L : Simulator) × (local_at D.sims j ≡ Some L) × HasCome T.rows T.scenario j (Y j) L) (sym q)
          (after_item before item, now_here, subst (λ (items : List Item). HasCome T.rows T.scenario s items (after_item before item)) (sym more) by_law.1)
      | inr apart ↦ let t = come i within in (t.0, others i apart ∙ t.1, subst (λ (items : List Item). HasCome T.rows T.scenario i items t.0) (sym (stay i apart)) t.2)
    ]

    only_inside : IsOnlyWithin T D.sims
    only_inside i outside = others i (λ q. true≢false (sym inside ∙ ap (is_within T.scenario) (sym q) ∙ outside)) ∙ only i outside

    no_other_inside : HasNoOther T (crew_of C) → HasNoOther T (crew_of D)
    no_other_inside = no_other_same T (crew_of C) (crew_of D) (so.within here).kept.channels

  -- where it went to a link, the simulators within the program stand
  module _ (away : is_here C s ≡ false) where
    come_on_link : HaveComeBy T Y D.sims
    come_on_link i within =
        let t = come i within in
        let apart : i ≡ s → ⊥ = (λ q. true≢false (sym within ∙ ap (is_within T.scenario) q ∙ not_here_is_outside T X C.sims s come away)) in
        (t.0, ap (λ (l : List (Option Simulator)). local_at l i) (so.on_link away).1 ∙ t.1, subst (λ (items : List Item). HasCome T.rows T.scenario i items t.0) (sym (stay i apart)) t.2)

    only_on_link : IsOnlyWithin T D.sims
    only_on_link i outside = ap (λ (l : List (Option Simulator)). local_at l i) (so.on_link away).1 ∙ only i outside

    no_other_on_link : HasNoOther T (crew_of C) → HasNoOther T (crew_of D)
    no_other_on_link = no_other_sent T (crew_of C) (crew_of D) s item id (so.on_link away).0

  by_place : {Z : Type 0} → (is_here C s ≡ true → Z) → (is_here C s ≡ false → Z) → Z
  by_place within on_link = elim (true_or_false (is_here C s)) [ inl here ↦ within here | inr away ↦ on_link away ]

  pub come_sent : HaveComeBy T Y D.sims
  come_sent i within = by_place (λ here. come_within here i within) (λ away. come_on_link away i within)

  pub only_sent : IsOnlyWithin T D.sims
  only_sent i outside = by_place (λ here. only_inside here i outside) (λ away. only_on_link away i outside)

  pub no_other_after : HasNoOther T (crew_of C) → HasNoOther T (crew_of D)
  no_other_after none i w there = by_place (λ here. no_other_inside here none i w there) (λ away. no_other_on_link away none i w there)
