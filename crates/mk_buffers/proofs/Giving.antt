-- Buffers go on to stand for a supply when they take a set value.
use Rattle.std.proofs.Common.{◌≡◌, inl, inr, filter, pos, ℕ, ◌<◌, ℤ, Bool, true, false, cond, List, [], ◌∷◌, ◌++◌, length, Option, Some, None, option_map, unwrap_or, slice_get, slice_set, refl, sym, ap, subst, ◌∙◌, ◌==◌, arith, true≢false}
use Rattle.mk_base.specs.Lists.{IsIn, same_text}
use Rattle.mk_base.proofs.Lists.{some_same, set_here, set_else, length_set, in_either, append_nil, filter_append}
use Rattle.mk_plan.specs.declared.Plan.{Plan}
use Rattle.mk_plan.specs.Plans.{owner, eid_of}
use Rattle.mk_plan.specs.Deliveries.{Supply, Gift}
use Rattle.std.proofs.lemmas.Slice.Eq.{bytes_eq-Decides}
use Rattle.mk_buffers.specs.declared.buffers.Buffers.{Buffers}
use Rattle.mk_buffers.specs.declared.buffers.Home.{Home}
use Rattle.mk_buffers_log.specs.Logs.{AnswersFrom}
use Rattle.std.specs.Prelude.{option_and_then}
use Rattle.mk_base.specs.Tiers.{moment}
use Rattle.mk_base.specs.Data.{IsValueText}
use Rattle.mk_plan.specs.declared.PlanEntity.{PlanEntity}
use Rattle.mk_plan.specs.Plans.{full_id, IsValidPlan}
use Rattle.mk_plan.proofs.FullIds.{same_full}
use Rattle.mk_buffers.specs.declared.sets.Slot.{Slot}
use Rattle.mk_buffers.specs.Slots.{AnswerGifts}
use Rattle.mk_buffers.specs.Held.{has_key, with_gift}
use Rattle.mk_buffers.specs.Standing.{StandFor, HasValueTexts, AreGifts, IsSourced, mark_of}
use Rattle.mk_buffers.specs.inner.Standing.{HasSet, TargetOf}
use Rattle.mk_buffers.specs.Marking.{Marked, IsLeastMark}
use Rattle.mk_buffers_log.proofs.Places.{apart_or_same}
use Rattle.mk_base.proofs.Lists.{get_is}
use Rattle.mk_buffers.specs.declared.gifts.Target.{Target}
use Rattle.mk_buffers.proofs.Slots.{answer_apart, answer_taken}
use Rattle.mk_buffers.specs.Bounds.{HasShape}
use Rattle.mk_buffers.proofs.Standing.{of_same, low_or_past, same_tight}
use Rattle.mk_base.proofs.Counts.{equal_same, same_equal, not_same}

-- one more set value
module _ (P : Plan) (S : Supply) (e : ℕ) (g : Gift) (src : IsSourced P e g.given) (valid : IsValidPlan P) where
  with_source : (f : ℕ) → f < length P.entities → (b : Bool) → (f == e) ≡ b → filter (λ h. same_text h.given.source (full_id P f)) (g ∷ []) ≡ cond b (g ∷ []) []
  with_source f low true is = ap (λ (c : Bool). cond c (g ∷ []) []) (ap (λ (u : List ℕ). same_text u (full_id P f)) src.source ∙ ap (λ (d : ℕ). same_text (full_id P e) (full_id P d)) (same_equal f e is) ∙ (bytes_eq-Decides (full_id P e) (full_id P e)).1 refl)
  with_source f low false is = go (same_text g.given.source (full_id P f)) refl
    where
      go : (c : Bool) → same_text g.given.source (full_id P f) ≡ c → filter (λ h. same_text h.given.source (full_id P f)) (g ∷ []) ≡ []
      go true h = absurd (true≢false (sym (equal_same f e (same_full P valid.well_formed.names valid.well_formed.references f e low src.below (sym ((bytes_eq-Decides g.given.source (full_id P f)).0 h) ∙ src.source))) ∙ is))
      go false h = ap (λ (c : Bool). cond c (g ∷ []) []) h

  given_more_of : (f : ℕ) (b : Bool) → (f == e) ≡ b → S.gifts f ++ cond b (g ∷ []) [] ≡ cond (f == e) (S.gifts f ++ g ∷ []) (S.gifts f)
  given_more_of f true is = sym (ap (λ (c : Bool). cond c (S.gifts f ++ g ∷ []) (S.gifts f)) is)
  given_more_of f false is = append_nil (S.gifts f) ∙ sym (ap (λ (c : Bool). cond c (S.gifts f ++ g ∷ []) (S.gifts f)) is)

  gifts_more : (all : List Gift) → AreGifts P S all → AreGifts P (with_gift S e g) (all ++ g ∷ [])
  gifts_more all are = record {
    by_source = λ f low. filter_append (λ h. same_text h.given.source (full_id P f)) all (g ∷ []) ∙ (λ k. are.by_source f low k ++ with_source f low (f == e) refl k) ∙ given_more_of f (f == e) refl;
    sourced = λ h m. elim (in_either h all (g ∷ []) m) [
      | inl r ↦ are.sourced h r
      | inr r ↦ elim r [ inl q ↦ (e, src.below, ap (λ (w : Gift). w.given.source) q ∙ src.source) | inr z ↦ absurd z ]
    ];
  }

  texts_more : HasValueTexts S → HasValueTexts (with_gift S e g)
  texts_more texts = record { outputs = texts.outputs; gifts = λ f h m. go f h (f == e) m }
    where
      go : (f : ℕ) (h : Gift) (c : Bool) → IsIn h (cond c (S.gifts f ++ g ∷ []) (S.gifts f)) → IsValueText h.given.value
      go f h true m = elim (in_either h (S.gifts f) (g ∷ []) m) [
        | inl r ↦ texts.gifts f h r
        | inr r ↦ elim r [ inl q ↦ subst (λ (w : Gift). IsValueText w.given.value) (sym q) src.text | inr z ↦ absurd z ]
      ]
      go f h false m = texts.gifts f h m

  -- a set value for the simulator
  pub stands_set : (b n : Buffers) (s : ℕ) (eid : List ℕ) → s ≡ owner P g.given.entity → eid ≡ eid_of P g.given.entity → HasSet s eid g b n → StandFor P b S → StandFor P n (with_gift S e g)
  stands_set b n s eid own named d st = record {
    of_plan = of_same P b n (λ i o at. (o, sym (λ k. slice_get (d.outlets k).items i) ∙ at, refl, refl)) (λ f a i k. has_key (d.outlets k).items f a i) (λ i o at. (o, (λ k. slice_get (d.outlets k).items i) ∙ at, refl, refl, refl))
        d.inlets d.homes d.feeds (ap length d.sets ∙ length_set b.sets.items s d.after) (λ k. length (d.marks k).marks) (λ k. (d.marks k).asks) (subst IsLeastMark (sym d.marks) st.of_plan.least) d.until (subst (λ v. HasShape P v.items) (sym d.outlets) st.of_plan.shape) (same_tight P b n (λ k. (d.outlets k).items) d.feeds d.next_marks d.until d.marks st.of_plan.tight) st.of_plan;
    among = λ i o at. st.among i o (sym (λ k. slice_get (d.outlets k).items i) ∙ at);
    texts = texts_more st.texts;
    outputs = λ i o at. subst (λ (u : ℤ). AnswersFrom o.vias.items u n.marks.least o.log (S.outputs o.entity o.attr)) (sym d.until)
        (subst (λ (m : Marked). AnswersFrom o.vias.items b.until m.least o.log (S.outputs o.entity o.attr)) (sym d.marks) (st.outputs i o (sym (λ k. slice_get (d.outlets k).items i) ∙ at)));
    gifts = (st.gifts.0 ++ g ∷ [], gifts_more st.gifts.0 st.gifts.1, λ r l at low. subst (λ (m : Marked). AnswerGifts P r (unwrap_or (slice_get m.marks r) (moment (pos 0))) l (st.gifts.0 ++ g ∷ [])) (sym d.marks) (held r l (sym (ap (λ (v : List (List Slot)). slice_get v r) d.sets) ∙ at) low));
  }
    where
      held : (r : ℕ) (l : List Slot) → slice_get (slice_set b.sets.items s d.after) r ≡ Some l → r < length P.sims → AnswerGifts P r (mark_of b r) l (st.gifts.0 ++ g ∷ [])
      held r l at low = elim (apart_or_same r s) [
        | inl same ↦
            let it : d.after ≡ l = some_same (sym (set_here b.sets.items s d.after d.before d.at_place) ∙ ap (slice_get (slice_set b.sets.items s d.after)) (sym same) ∙ at) in
            subst (λ (q : List Slot). AnswerGifts P r (mark_of b r) q (st.gifts.0 ++ g ∷ [])) it
            (subst (λ (q : ℕ). AnswerGifts P q (mark_of b q) d.after (st.gifts.0 ++ g ∷ [])) (sym same)
            (answer_taken P s (mark_of b s) g d.before d.after st.gifts.0 _ _ d.taken (λ k. record { eid = sym named k; attr = g.given.attr; source = g.given.source; value = g.given.value }) refl (equal_same (owner P g.given.entity) s (sym own))
            (st.gifts.2 s d.before d.at_place (subst (λ (q : ℕ). q < length P.sims) same low))))
        | inr apart ↦ answer_apart P r (mark_of b r) g l st.gifts.0 (not_same (owner P g.given.entity) r (λ q. apart (sym q ∙ sym own))) (st.gifts.2 r l (sym (set_else b.sets.items s r d.after apart) ∙ at) low)
      ]

  -- a set value for nobody
  pub stands_past : (b : Buffers) → TargetOf b g.given.entity None → StandFor P b S → StandFor P b (with_gift S e g)
  stands_past b none st = record {
    of_plan = st.of_plan;
    texts = texts_more st.texts;
    outputs = st.outputs;
    among = st.among;
    gifts = (st.gifts.0 ++ g ∷ [], gifts_more st.gifts.0 st.gifts.1, λ r l at low. answer_apart P r (mark_of b r) g l st.gifts.0 (not_same (owner P g.given.entity) r (λ q. nobody r low q)) (st.gifts.2 r l at low));
  }
    where
      nobody : (r : ℕ) → r < length P.sims → owner P g.given.entity ≡ r → ⊥
      nobody r low q = elim (low_or_past P.entities g.given.entity) [
        | inl there ↦ let h = st.of_plan.homes g.given.entity there in none h.home h.at_home (omega (arith, low, h.sim, q, st.of_plan.sizes.sets)) (omega (arith, low, h.sim, q, st.of_plan.sizes.marks))
        | inr past ↦ let is : owner P g.given.entity ≡ length P.sims = ap (λ (o : Option PlanEntity). unwrap_or (option_and_then (λ n. option_map (λ m. m.sim.0) (slice_get P.models n.model)) o) (length P.sims)) past in omega (arith, low, q, is)
      ]

  -- a set value for the simulator of its entity
  pub stands_target : (b n : Buffers) (t : Target) → TargetOf b g.given.entity (Some t) → HasSet t.sim t.eid g b n → StandFor P b S → StandFor P n (with_gift S e g)
  stands_target b n t is d st =
      let low : g.given.entity < length P.entities = let l = (get_is b.homes.items g.given.entity is.0 is.1).0 in omega (arith, l, st.of_plan.home_count) in
      let h = st.of_plan.homes g.given.entity low in
      let same : is.0 ≡ h.home = some_same (sym is.1 ∙ h.at_home) in
      stands_set b n t.sim t.eid (is.2 ∙ ap (λ (x : Home). x.sim) same ∙ h.sim) (is.3 ∙ ap (λ (x : Home). x.eid) same ∙ h.eid) d st
