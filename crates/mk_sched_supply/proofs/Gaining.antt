-- While the outputs of a turn are delivered, want by want: what the buffers stand for.
use Rattle.std.proofs.Common.{◌≡◌, ℕ, ◌+◌, ◌<◌, Bool, true, false, ◌&&◌, List, [], ◌∷◌, ◌++◌, length, take, slice_get, Option, Some, None, option_map, option_and_then, unwrap_or, refl, sym, ap, ◌∙◌, subst, arith, append_assoc, ◌==◌, if◌then◌else◌}
use Rattle.std.proofs.lemmas.Bool.{eqb-true, eq-eqb}
use Rattle.mk_base.specs.declared.json.Json.{Json}
use Rattle.mk_base.specs.declared.tier.Tier.{Tier}
use Rattle.mk_base.specs.Lists.{same_text}
use Rattle.mk_base.specs.Texts.{text_of}
use Rattle.mk_base.proofs.Lists.{all_in, append_nil, get_is, some_passes}
use Rattle.mk_plan.specs.declared.Plan.{Plan}
use Rattle.mk_plan.specs.declared.Conn.{Conn}
use Rattle.mk_plan.specs.declared.PlanEntity.{PlanEntity}
use Rattle.mk_plan.specs.declared.Want.{Want}
use Rattle.mk_plan.specs.Plans.{RefersInside, owner, eid_of, sim_count}
use Rattle.mk_plan.specs.Turns.{wanted, value_for}
use Rattle.mk_plan.specs.Asks.{gives_attr}
use Rattle.mk_plan.specs.Deliveries.{Timed, Supply}
use Rattle.mk_plan.proofs.FullIds.{same_entity}
use Rattle.mk_buffers.specs.declared.buffers.Buffers.{Buffers}
use Rattle.mk_buffers.specs.Held.{with_output}
use Rattle.mk_buffers.specs.Standing.{StandFor}
use Rattle.mk_sched_supply.specs.inner.Making.{HasGiven}
use Rattle.mk_sched_supply.proofs.Bringing.{brought, brought_more, made_of}
use Rattle.mk_sched_supply.proofs.Wanting.{is_want}
use Rattle.mk_base.proofs.Bools.{and_holds, both_hold, same_truth}
use Rattle.mk_base.proofs.Guessing.{text_is}
use Rattle.mk_base.proofs.Items.{same_text_self}

-- the buffers stand for the supply S with what the data bring for the first k wants of s
pub record HasGained (P : Plan) (s : ℕ) (x : Tier) (content : Json) (k : ℕ) (S : Supply) (b : Buffers) : Type 0 where
  pub now : Supply
  pub stands : StandFor P b now
  pub outputs : (e : ℕ) (attr : List ℕ) → gives_attr P e attr ≡ true → now.outputs e attr ≡ S.outputs e attr ++ brought P s x content (take k (wanted P s)) e attr
  pub gifts : (e : ℕ) → now.gifts e ≡ S.gifts e

-- who gives an output is an entity of the plan
giver_below : (P : Plan) → RefersInside P → (e : ℕ) (attr : List ℕ) → gives_attr P e attr ≡ true → e < length P.entities
giver_below P refers e attr given =
    let t = some_passes (λ (c : Conn). (c.from == e) && same_text c.from_attr attr) P.conns given in
    let u = both_hold (t.0.from == e) (same_text t.0.from_attr attr) t.2 in
    subst (λ (d : ℕ). d < length P.entities) (eqb-true t.0.from e u.0) (all_in (λ (c : Conn). (c.from < length P.entities) × (c.to < length P.entities)) P.conns t.0 refers.conns t.1).0

-- and so is who has an owner
owned_below : (P : Plan) (e s : ℕ) → s < sim_count P → owner P e ≡ s → e < length P.entities
owned_below P e s low own = elim (slice_get P.entities e) as (λ o. slice_get P.entities e ≡ o → e < length P.entities) [
  | Some n ↦ λ at. (get_is P.entities e n at).0
  | None ↦ λ at. let none : owner P e ≡ sim_count P = ap (λ (o : Option PlanEntity). unwrap_or (option_and_then (λ n. option_map (λ m. m.sim.0) (slice_get P.models n.model)) o) (sim_count P)) at in absurd (omega (arith, low, none, own))
] refl

module _ (P : Plan) (s : ℕ) (low : s < sim_count P) (x : Tier) (content : Json) (S : Supply) (k : ℕ) (w : Want) (at : slice_get (wanted P s) k ≡ Some w) where
  -- the entity of the want is the one that is wanted
  same_test : (b : Buffers) (T : Supply) → StandFor P b T → (d : ℕ) → owner P d ≡ s → eid_of P d ≡ w.eid → (e : ℕ) (attr : List ℕ) → gives_attr P e attr ≡ true
      → ((e == d) && same_text attr w.attr) ≡ ((owner P e == s) && is_want (record { eid = eid_of P e; attr = attr }) w)
  same_test b T st d owned named e attr given = same_truth _ _ there back
    where
      there : ((e == d) && same_text attr w.attr) ≡ true → ((owner P e == s) && is_want (record { eid = eid_of P e; attr = attr }) w) ≡ true
      there h =
          let t = both_hold (e == d) (same_text attr w.attr) h in
          let same : e ≡ d = eqb-true e d t.0 in
          let eid : w.eid ≡ eid_of P e = sym named ∙ ap (eid_of P) (sym same) in
          let name : w.attr ≡ attr = sym (text_is attr w.attr t.1) in
          and_holds (owner P e == s) (is_want (record { eid = eid_of P e; attr = attr }) w) (eq-eqb (owner P e) s (ap (owner P) same ∙ owned))
          (and_holds (same_text w.eid (eid_of P e)) (same_text w.attr attr) (subst (λ (t : List ℕ). same_text w.eid t ≡ true) eid (same_text_self w.eid)) (subst (λ (t : List ℕ). same_text w.attr t ≡ true) name (same_text_self w.attr)))

      back : ((owner P e == s) && is_want (record { eid = eid_of P e; attr = attr }) w) ≡ true → ((e == d) && same_text attr w.attr) ≡ true
      back h =
          let t = both_hold (owner P e == s) (is_want (record { eid = eid_of P e; attr = attr }) w) h in
          let u = both_hold (same_text w.eid (eid_of P e)) (same_text w.attr attr) t.1 in
          let name : w.attr ≡ attr = text_is w.attr attr u.1 in
          let same : e ≡ d = same_entity P st.of_plan.valid.well_formed.names e d (giver_below P st.of_plan.valid.well_formed.references e attr given) (owned_below P d s low owned)
          (eqb-true (owner P e) s t.0 ∙ sym owned) (sym (text_is w.eid (eid_of P e) u.0) ∙ sym named) in
          and_holds (e == d) (same_text attr w.attr) (eq-eqb e d same) (subst (λ (t : List ℕ). same_text attr t ≡ true) (sym name) (same_text_self attr))

  pub gained_more : (old new : Buffers) (h : HasGained P s x content k S old) (o : Option Json) → value_for content w ≡ o → HasGiven P s x w o h.now new → HasGained P s x content (k + 1) S new
  gained_more old new h None none given = record {
    now = h.now;
    stands = given;
    outputs = λ e attr gives. h.outputs e attr gives ∙ ap (λ (l : List Timed). S.outputs e attr ++ l) (sym (brought_more P s x content k w at e attr ∙ ap (λ (l : List Timed). brought P s x content (take k (wanted P s)) e attr ++ l) (nothing ((owner P e == s) && is_want (record { eid = eid_of P e; attr = attr }) w)) ∙ append_nil _));
    gifts = h.gifts;
  }
    where
      nothing : (b : Bool) → (if b then made_of x (value_for content w) else []) ≡ []
      nothing true = ap (made_of x) none
      nothing false = refl
  gained_more old new h (Some v) some given = record {
    now = with_output h.now given.0 w.attr t;
    stands = given.3;
    outputs = λ e attr gives. ap (λ (b : Bool). if b then h.now.outputs e attr ++ t ∷ [] else h.now.outputs e attr) (same_test new (with_output h.now given.0 w.attr t) given.3 given.0 given.1 given.2 e attr gives)
        ∙ more e attr gives ((owner P e == s) && is_want (record { eid = eid_of P e; attr = attr }) w)
        ∙ ap (λ (l : List Timed). S.outputs e attr ++ l) (sym (brought_more P s x content k w at e attr));
    gifts = h.gifts;
  }
    where
      t : Timed
      t = record { at = x; value = text_of v }

      more : (e : ℕ) (attr : List ℕ) → gives_attr P e attr ≡ true → (b : Bool) → (if b then h.now.outputs e attr ++ t ∷ [] else h.now.outputs e attr)
          ≡ S.outputs e attr ++ (brought P s x content (take k (wanted P s)) e attr ++ (if b then made_of x (value_for content w) else []))
      more e attr gives true = ap (λ (l : List Timed). l ++ t ∷ []) (h.outputs e attr gives) ∙ append_assoc (S.outputs e attr) (brought P s x content (take k (wanted P s)) e attr) (t ∷ [])
          ∙ ap (λ (l : List Timed). S.outputs e attr ++ (brought P s x content (take k (wanted P s)) e attr ++ l)) (ap (made_of x) (sym some))
      more e attr gives false = h.outputs e attr gives ∙ ap (λ (l : List Timed). S.outputs e attr ++ l) (sym (append_nil (brought P s x content (take k (wanted P s)) e attr)))

-- before any want
pub gained_none : (P : Plan) (s : ℕ) (x : Tier) (content : Json) (S : Supply) (b : Buffers) → StandFor P b S → HasGained P s x content 0 S b
gained_none P s x content S b st = record { now = S; stands = st; outputs = λ e attr gives. sym (ap (λ (l : List Timed). S.outputs e attr ++ l) (nothing (owner P e == s)) ∙ append_nil (S.outputs e attr)); gifts = λ e. refl }
  where
    nothing : (b : Bool) → (if b then [] else []) ≡ (let l : List Timed = [] in l)
    nothing true = refl
    nothing false = refl
