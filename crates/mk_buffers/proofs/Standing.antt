-- Buffers go on to stand for a supply while they take, note and give up.
use Rattle.std.proofs.Common.{◌≡◌, ◌≢◌, ◌⊎◌, inl, inr, pos, ℕ, zero, suc, ◌+◌, ◌<◌, ℤ, Bool, true, false, ◌&&◌, cond, List, [], ◌∷◌, ◌++◌, length, Option, Some, None, option_map, unwrap_or, get_or, slice_get, slice_set, refl, sym, ap, subst, ◌∙◌, ◌==◌, arith, true≢false}
use Rattle.mk_base.specs.declared.tier.Tier.{Tier}
use Rattle.mk_base.specs.declared.tier.Via.{Via}
use Rattle.mk_base.specs.Lists.{IsIn, same_text}
use Rattle.mk_base.specs.Tiers.{IsUpTo}
use Rattle.mk_base.proofs.Lists.{some_same, set_here, set_else, in_either}
use Rattle.mk_plan.specs.declared.Plan.{Plan}
use Rattle.mk_plan.specs.Plans.{owner, eid_of}
use Rattle.mk_plan.specs.Deliveries.{Timed, Supply}
use Rattle.mk_plan.specs.Inputs.{latest, value_at}
use Rattle.std.proofs.lemmas.Slice.Eq.{bytes_eq-Decides}
use Rattle.mk_buffers.specs.declared.outlets.Outlet.{Outlet}
use Rattle.mk_buffers.specs.declared.buffers.Buffers.{Buffers}
use Rattle.mk_buffers.specs.declared.buffers.Home.{Home}
use Rattle.std.specs.List.{sum_by}
use Rattle.std.proofs.lemmas.List.Sums.{sum_by-cons}
use Rattle.mk_buffers.specs.Bounds.{HasShape}
use Rattle.mk_buffers_log.specs.Logs.{AnswersFrom, IsAmong, IsFew, StaysFew, by}
use Rattle.std.specs.Prelude.{IfNone, IfSome, ◌≤◌}
use Rattle.mk_base.specs.Tiers.{moment}
use Rattle.mk_base.specs.Data.{IsValueText}
use Rattle.mk_plan.specs.declared.Want.{Want}
use Rattle.mk_buffers.specs.declared.sets.Slot.{Slot}
use Rattle.mk_buffers.specs.Slots.{AnswerGifts, SameLast, held_for, given_for}
use Rattle.mk_buffers.specs.Held.{with_output, is_key, has_key}
use Rattle.mk_buffers.specs.inner.Held.{IsThinned, AreThinned, IsKeyless}
use Rattle.mk_plan.specs.declared.Conn.{Conn}
use Rattle.mk_buffers.specs.declared.inlets.Inlet.{Inlet}
use Rattle.mk_buffers.specs.Standing.{IsInlet, IsOfPlan, IsNew, StandFor, HasKey, LacksKey, HasValueTexts, IsOutletFor, IsUnchanged, HasRaised, IsTight, next_of, mark_of}
use Rattle.mk_buffers.specs.inner.Standing.{Delivers, HasThinned}
use Rattle.mk_buffers.specs.Marking.{Marked, AreAsking, IsLeastMark, greater, asks_of}
use Rattle.mk_buffers.specs.inner.Marking.{Raised}
use Rattle.mk_base.specs.Tiers.{up_to}
use Rattle.mk_base.proofs.TierOrder.{up_to_self, up_to_total}
use Rattle.mk_base.proofs.Lists.{get_is, below_get, none_some, in_filter}
use Rattle.mk_buffers_log.proofs.Latest.{latest_in}
use Rattle.mk_buffers_log.proofs.Places.{apart_or_same, get_some}
use Rattle.mk_buffers_log.proofs.Answering.{answers_trans, answers_later}
use Rattle.mk_buffers_log.proofs.Ascending.{answers_self}
use Rattle.mk_buffers.proofs.Lasts.{same_self, same_later}
use Rattle.mk_buffers_log.proofs.Keeping.{among_self, among_trans, among_more}
use Rattle.mk_buffers.proofs.Tight.{swept_same, swept_at, swept_less, shape_same, sum_set}
use Rattle.mk_base.proofs.Counts.{equal_same, same_equal}
use Rattle.mk_base.proofs.Bools.{both_hold}

module _ (until : ℤ) (mark : Tier) where
  thinned_self : (o : Outlet) → IsThinned until mark o o
  thinned_self o = record { sim = refl; entity = refl; attr = refl; vias = refl; answers = answers_self o.vias.items until mark o.log; among = among_self o.log }

  thinned_trans : (o p q : Outlet) → IsThinned until mark o p → IsThinned until mark p q → IsThinned until mark o q
  thinned_trans o p q f g = record {
    sim = g.sim ∙ f.sim;
    entity = g.entity ∙ f.entity;
    attr = g.attr ∙ f.attr;
    vias = g.vias ∙ f.vias;
    answers = answers_trans o.vias.items until mark q.log p.log o.log (subst (λ (vs : List Via). AnswersFrom vs until mark q.log p.log) f.vias g.answers) f.answers;
    among = among_trans q.log p.log o.log g.among f.among;
  }

  pub all_self : (os : List Outlet) → AreThinned until mark os os
  all_self [] = tt
  all_self (o ∷ os) = (thinned_self o, all_self os)

  pub all_trans : (os ps qs : List Outlet) → AreThinned until mark os ps → AreThinned until mark ps qs → AreThinned until mark os qs
  all_trans [] [] [] f g = tt
  all_trans [] [] (q ∷ qs) f g = absurd g
  all_trans [] (p ∷ ps) qs f g = absurd f
  all_trans (o ∷ os) [] qs f g = absurd f
  all_trans (o ∷ os) (p ∷ ps) [] f g = absurd g
  all_trans (o ∷ os) (p ∷ ps) (q ∷ qs) f g = (thinned_trans o p q f.0 g.0, all_trans os ps qs f.1 g.1)

  pub all_set : (os : List Outlet) (i : ℕ) (o n : Outlet) → slice_get os i ≡ Some o → IsThinned until mark o n → AreThinned until mark os (slice_set os i n)
  all_set [] i o n is f = cc
  all_set (p ∷ ps) zero o n is f = let same : p ≡ o = cc in (subst (λ (q : Outlet). IsThinned until mark q n) (sym same) f, all_self ps)
  all_set (p ∷ ps) (suc i) o n is f = (thinned_self p, all_set ps i o n is f)

  -- what stands at a place stood there
  pub thinned_at : (os ns : List Outlet) (i : ℕ) (n : Outlet) → AreThinned until mark os ns → slice_get ns i ≡ Some n → (o : Outlet) × (slice_get os i ≡ Some o) × IsThinned until mark o n
  thinned_at [] [] i n f is = cc
  thinned_at [] (m ∷ ms) i n f is = absurd f
  thinned_at (o ∷ os) [] i n f is = absurd f
  thinned_at (o ∷ os) (m ∷ ms) zero n f is = let same : m ≡ n = cc in (o, refl, subst (IsThinned until mark o) same f.0)
  thinned_at (o ∷ os) (m ∷ ms) (suc i) n f is = thinned_at os ms i n f.1 is

  thinned_on : (os ns : List Outlet) (i : ℕ) (o : Outlet) → AreThinned until mark os ns → slice_get os i ≡ Some o → (n : Outlet) × (slice_get ns i ≡ Some n) × (n.entity ≡ o.entity) × (n.attr ≡ o.attr) × (n.vias.items ≡ o.vias.items)
  thinned_on [] [] i o f is = cc
  thinned_on [] (m ∷ ms) i o f is = absurd f
  thinned_on (p ∷ ps) [] i o f is = absurd f
  thinned_on (p ∷ ps) (m ∷ ms) zero o f is = let same : p ≡ o = cc in (m, refl, f.0.entity ∙ ap (λ (q : Outlet). q.entity) same, f.0.attr ∙ ap (λ (q : Outlet). q.attr) same, f.0.vias ∙ ap (λ (q : Outlet). q.vias.items) same)
  thinned_on (p ∷ ps) (m ∷ ms) (suc i) o f is = thinned_on ps ms i o f.1 is

  thinned_key : (os ns : List Outlet) (e : ℕ) (attr : List ℕ) (i : ℕ) → AreThinned until mark os ns → has_key ns e attr i ≡ has_key os e attr i
  thinned_key [] [] e attr i f = refl
  thinned_key [] (m ∷ ms) e attr i f = absurd f
  thinned_key (o ∷ os) [] e attr i f = absurd f
  thinned_key (o ∷ os) (m ∷ ms) e attr zero f = (λ k. (f.0.entity k == e) && same_text (f.0.attr k) attr)
  thinned_key (o ∷ os) (m ∷ ms) e attr (suc i) f = thinned_key os ms e attr i f.1

  thinned_total : (os ns : List Outlet) → AreThinned until mark os ns → sum_by (λ o. length o.vias.items) ns ≡ sum_by (λ o. length o.vias.items) os
  thinned_total [] [] f = refl
  thinned_total [] (m ∷ ms) f = absurd f
  thinned_total (o ∷ os) [] f = absurd f
  thinned_total (o ∷ os) (m ∷ ms) f = let own = ap length f.0.vias in
      omega (arith, sum_by-cons (λ o. length o.vias.items) m ms, sum_by-cons (λ o. length o.vias.items) o os, own, thinned_total os ms f.1)

  pub thinned_shape : (P : Plan) (os ns : List Outlet) → AreThinned until mark os ns → HasShape P os → HasShape P ns
  thinned_shape P os ns f h = shape_same P os ns (λ i n at. let o = thinned_at os ns i n f at in (o.0, o.1, o.2.entity, o.2.attr, o.2.vias)) (thinned_total os ns f) h

-- the tables stay those of the plan, where each place keeps its key
pub of_same : (P : Plan) (b n : Buffers) → ((i : ℕ) (o : Outlet) → slice_get n.outlets.items i ≡ Some o → (p : Outlet) × (slice_get b.outlets.items i ≡ Some p) × (o.entity ≡ p.entity) × (o.attr ≡ p.attr))
    → ((e : ℕ) (attr : List ℕ) (i : ℕ) → has_key n.outlets.items e attr i ≡ has_key b.outlets.items e attr i) → ((i : ℕ) (p : Outlet) → slice_get b.outlets.items i ≡ Some p → (o : Outlet) × (slice_get n.outlets.items i ≡ Some o) × (o.entity ≡ p.entity) × (o.attr ≡ p.attr) × (o.vias.items ≡ p.vias.items))
    → n.inlets ≡ b.inlets → n.homes ≡ b.homes → n.feeds ≡ b.feeds → length n.sets.items ≡ length b.sets.items → length n.marks.marks ≡ length b.marks.marks → n.marks.asks ≡ b.marks.asks → IsLeastMark n.marks → n.until ≡ b.until → HasShape P n.outlets.items → IsTight n → IsOfPlan P b → IsOfPlan P n
of_same P b n back keys on ins homes feeds sets marks asks exact ends shape tight of = record {
  shape = shape;
  tight = tight;
  valid = of.valid;
  homes = λ e low. let h = of.homes e low in record { home = h.home; at_home = (λ k. slice_get (homes k).items e) ∙ h.at_home; sim = h.sim; eid = h.eid };
  home_count = (λ k. length (homes k).items) ∙ of.home_count;
  asking = subst (AreAsking P) (sym asks) of.asking;
  least = exact;
  sizes = record {
    inlets = (λ k. length (ins k).items) ∙ of.sizes.inlets;
    sets = sets ∙ of.sizes.sets;
    feeds = (λ k. length (feeds k).items) ∙ of.sizes.feeds;
    marks = marks ∙ of.sizes.marks;
  };
  aligned = λ s part at i w want. let f = of.aligned s part (sym (λ k. slice_get (feeds k).items s) ∙ at) i w want in let q = on (part.first + i) f.outlet f.at_place in record {
    outlet = q.0;
    at_place = q.1;
    sim = ap (owner P) q.2 ∙ f.sim;
    eid = ap (eid_of P) q.2 ∙ f.eid;
    attr = q.3 ∙ f.attr;
  };
  inlets = λ s l at. let a = of.inlets s l (sym (λ k. slice_get (ins k).items s) ∙ at) in record {
    sorted = a.sorted;
    each = λ i m. let c = a.each i m in (c.0, c.1, move c.0 i c.2);
    all = λ c m. let i = a.all c m in (i.0, i.1, move c i.0 i.2);
  };
  until = ends ∙ of.until;
  once = λ i j o q at to same.
      let old = back i o at in
      let other = back j q to in
      let moved : is_key o.entity o.attr q ≡ is_key old.0.entity old.0.attr other.0 = (λ k. (other.2 k == old.2 k) && same_text (other.3 k) (old.3 k)) in
      of.once i j old.0 other.0 old.1 other.1 (sym moved ∙ same);
  found = λ e attr given. let f = of.found e attr given in record {
    home = f.home;
    at_home = (λ k. slice_get (homes k).items e) ∙ f.at_home;
    place = f.place;
    first = f.first;
    end = f.end;
    key = keys e attr f.place ∙ f.key;
  };
}
  where
    move : (c : Conn) (i : Inlet) → IsInlet P b c i → IsInlet P n c i
    move c i f = let q = on i.outlet f.outlet f.at_place in record {
      eid = f.eid;
      attr = f.attr;
      source = f.source;
      via = f.via;
      persistent = f.persistent;
      initial = f.initial;
      outlet = q.0;
      at_place = q.1;
      entity = q.2 ∙ f.entity;
      from_attr = q.3 ∙ f.from_attr;
      delay = subst (IsIn c.via) (sym q.4) f.delay;
    }

pub stands_thinned : (P : Plan) (b n : Buffers) (S : Supply) (mark : Tier) → AreThinned b.until mark b.outlets.items n.outlets.items → n.inlets ≡ b.inlets → n.homes ≡ b.homes → n.feeds ≡ b.feeds → n.sets ≡ b.sets → length n.marks.marks ≡ length b.marks.marks → n.marks.asks ≡ b.marks.asks → IsLeastMark n.marks → ((s : ℕ) → s < length b.marks.marks → IsUpTo (mark_of b s) (mark_of n s)) → n.until ≡ b.until → IsUpTo b.marks.least mark → n.marks.least ≡ mark → IsTight n → StandFor P b S → StandFor P n S
stands_thinned P b n S mark thin ins homes feeds sets marks asks exact rises ends up now tight s = record {
  texts = s.texts;
  among = λ i o at. let old = thinned_at b.until mark b.outlets.items n.outlets.items i o thin at in
      subst (λ (e : ℕ). IsAmong o.log (S.outputs e o.attr)) (sym old.2.entity)
      (subst (λ (a : List ℕ). IsAmong o.log (S.outputs old.0.entity a)) (sym old.2.attr) (among_trans o.log old.0.log (S.outputs old.0.entity old.0.attr) old.2.among (s.among i old.0 old.1)));
  gifts = (s.gifts.0, s.gifts.1, λ r l at low k. same_later (mark_of b r) (mark_of n r) (held_for k l) (given_for P r k s.gifts.0) (rises r (omega (arith, low, s.of_plan.sizes.marks))) (s.gifts.2 r l (sym (λ j. slice_get (sets j).items r) ∙ at) low k));
  of_plan = of_same P b n (λ i o at. let old = thinned_at b.until mark b.outlets.items n.outlets.items i o thin at in (old.0, old.1, old.2.entity, old.2.attr)) (λ e attr i. thinned_key b.until mark b.outlets.items n.outlets.items e attr i thin) (λ i p at. thinned_on b.until mark b.outlets.items n.outlets.items i p thin at) ins homes feeds (λ k. length (sets k).items) marks asks exact ends (thinned_shape b.until mark P b.outlets.items n.outlets.items thin s.of_plan.shape) tight s.of_plan;
  outputs = λ i o at. let old = thinned_at b.until mark b.outlets.items n.outlets.items i o thin at in
      let all : AnswersFrom old.0.vias.items b.until mark o.log (S.outputs old.0.entity old.0.attr) =
      answers_trans old.0.vias.items b.until mark o.log old.0.log (S.outputs old.0.entity old.0.attr) old.2.answers (answers_later old.0.vias.items b.until b.marks.least mark old.0.log (S.outputs old.0.entity old.0.attr) up (s.outputs i old.0 old.1)) in
      subst (λ (m : Tier). AnswersFrom o.vias.items n.until m o.log (S.outputs o.entity o.attr)) (sym now)
      (subst (λ (u : ℤ). AnswersFrom o.vias.items u mark o.log (S.outputs o.entity o.attr)) (sym ends)
      (subst (λ (vs : List Via). AnswersFrom vs b.until mark o.log (S.outputs o.entity o.attr)) (sym old.2.vias)
      (subst (λ (e : ℕ). AnswersFrom old.0.vias.items b.until mark o.log (S.outputs e o.attr)) (sym old.2.entity)
      (subst (λ (a : List ℕ). AnswersFrom old.0.vias.items b.until mark o.log (S.outputs old.0.entity a)) (sym old.2.attr) all))));
}

pub unchanged : (mark : Tier) (b : Buffers) → HasThinned mark b b
unchanged mark b = record { outlets = all_self b.until mark b.outlets.items; homes = refl; until = refl; marks = refl; inlets = refl; sets = refl; feeds = refl }

pub thinned_again : (mark : Tier) (a b n : Buffers) → HasThinned mark a b → HasThinned mark b n → HasThinned mark a n
thinned_again mark a b n f g = record {
  outlets = all_trans a.until mark a.outlets.items b.outlets.items n.outlets.items f.outlets (subst (λ (u : ℤ). AreThinned u mark b.outlets.items n.outlets.items) f.until g.outlets);
  homes = g.homes ∙ f.homes;
  until = g.until ∙ f.until;
  marks = g.marks ∙ f.marks;
  inlets = g.inlets ∙ f.inlets;
  sets = g.sets ∙ f.sets;
  feeds = g.feeds ∙ f.feeds;
}

-- the outlet of an attribute
pub key_there : (os : List Outlet) (e : ℕ) (attr : List ℕ) (i : ℕ) → has_key os e attr i ≡ true → (o : Outlet) × (slice_get os i ≡ Some o) × (is_key e attr o ≡ true)
key_there os e attr i h = go (slice_get os i) refl h
  where
    go : (o : Option Outlet) → slice_get os i ≡ o → unwrap_or (option_map (is_key e attr) o) false ≡ true → (p : Outlet) × (slice_get os i ≡ Some p) × (is_key e attr p ≡ true)
    go None p h = absurd (true≢false (sym h))
    go (Some o) p h = (o, p, h)

pub key_below : (os : List Outlet) (e : ℕ) (attr : List ℕ) (i : ℕ) → has_key os e attr i ≡ true → i < length os
key_below [] e attr i h = absurd (true≢false (sym h))
key_below (o ∷ os) e attr zero h = omega arith
key_below (o ∷ os) e attr (suc i) h = omega (arith, key_below os e attr i h)

-- none of the places of an entity's outlets has the one of this attribute
pub keyless : (b : Buffers) (e : ℕ) (attr : List ℕ) (home : Home) (outlets : List Outlet) (r : Option ℕ) → slice_get b.homes.items e ≡ Some home → outlets ≡ b.outlets.items → IfNone r (IsKeyless outlets e attr home.outlets.first home.outlets.end) → IfNone r (LacksKey b e attr)
keyless b e attr home outlets (Some i) at is none = tt
keyless b e attr home outlets None at is none = λ h there i low high.
    let same : h ≡ home = some_same (sym there ∙ at) in
    subst (λ (os : List Outlet). has_key os e attr i ≡ false) is (none i (subst (λ (x : Home). x.outlets.first ≤ i) same low) (subst (λ (x : Home). i < x.outlets.end) same high))

pub low_or_past : {X : Type 0} (xs : List X) (i : ℕ) → (i < length xs) ⊎ (slice_get xs i ≡ None)
low_or_past [] i = inr refl
low_or_past (x ∷ xs) zero = inl (omega arith)
low_or_past (x ∷ xs) (suc i) = elim (low_or_past xs i) [ inl l ↦ inl (omega (arith, l)) | inr n ↦ inr n ]

pub key_is : (e : ℕ) (attr : List ℕ) (o : Outlet) → is_key e attr o ≡ true → (o.entity ≡ e) × (o.attr ≡ attr)
key_is e attr o h = let parts = both_hold (o.entity == e) (same_text o.attr attr) h in (same_equal o.entity e parts.0, (bytes_eq-Decides o.attr attr).0 parts.1)

pub value_found : (P : Plan) (b : Buffers) (S : Supply) (e : ℕ) (attr : List ℕ) (x : Tier) (i : ℕ) (o : Outlet) → StandFor P b S → has_key b.outlets.items e attr i ≡ true → o ≡ get_or b.outlets.items i o → IsUpTo b.marks.least x
    → option_map (λ t. t.value) (latest (by x o.log)) ≡ value_at S x e attr
value_found P b S e attr x i o s key is from =
    let there = key_there b.outlets.items e attr i key in
    let at : slice_get b.outlets.items i ≡ Some o = get_some b.outlets.items i o (key_below b.outlets.items e attr i key) is in
    let same : there.0 ≡ o = some_same (sym there.1 ∙ at) in
    let own = key_is e attr o (subst (λ (p : Outlet). is_key e attr p ≡ true) same there.2) in
    ap (option_map (λ (t : Timed). t.value)) ((s.outputs i o at).made x from ∙ (λ k. latest (by x (S.outputs (own.0 k) (own.1 k)))))

-- one more output
module _ (P : Plan) (b n : Buffers) (S : Supply) (e : ℕ) (attr : List ℕ) (i : ℕ) (t : Timed) (s : StandFor P b S) (key : has_key b.outlets.items e attr i ≡ true) (text : IsValueText t.value) (d : Delivers b n i t) where
  at_it : slice_get n.outlets.items i ≡ Some d.after
  at_it = ap (λ (os : List Outlet). slice_get os i) d.outlets ∙ set_here b.outlets.items i d.after d.before d.at_place

  at_other : (j : ℕ) → j ≢ i → slice_get n.outlets.items j ≡ slice_get b.outlets.items j
  at_other j apart = ap (λ (os : List Outlet). slice_get os j) d.outlets ∙ set_else b.outlets.items i j d.after apart

  own : is_key e attr d.before ≡ true
  own = let there = key_there b.outlets.items e attr i key in subst (λ (p : Outlet). is_key e attr p ≡ true) (some_same (sym there.1 ∙ d.at_place)) there.2

  back : (j : ℕ) (o : Outlet) → slice_get n.outlets.items j ≡ Some o → (p : Outlet) × (slice_get b.outlets.items j ≡ Some p) × (o.entity ≡ p.entity) × (o.attr ≡ p.attr)
  back j o is = elim (apart_or_same j i) [
    | inl same ↦ let it : o ≡ d.after = some_same (sym is ∙ ap (slice_get n.outlets.items) same ∙ at_it) in (d.before, ap (slice_get b.outlets.items) same ∙ d.at_place, ap (λ (p : Outlet). p.entity) it ∙ d.taken.entity, ap (λ (p : Outlet). p.attr) it ∙ d.taken.attr)
    | inr apart ↦ (o, sym (at_other j apart) ∙ is, refl, refl)
  ]

  keys : (f : ℕ) (a : List ℕ) (j : ℕ) → has_key n.outlets.items f a j ≡ has_key b.outlets.items f a j
  keys f a j = elim (apart_or_same j i) [
    | inl same ↦ ap (has_key n.outlets.items f a) same ∙ ap (λ (o : Option Outlet). unwrap_or (option_map (is_key f a) o) false) at_it
        ∙ (λ k. (d.taken.entity k == f) && same_text (d.taken.attr k) a)
        ∙ sym (ap (λ (o : Option Outlet). unwrap_or (option_map (is_key f a) o) false) d.at_place) ∙ sym (ap (has_key b.outlets.items f a) same)
    | inr apart ↦ ap (λ (o : Option Outlet). unwrap_or (option_map (is_key f a) o) false) (at_other j apart)
  ]

  on : (j : ℕ) (p : Outlet) → slice_get b.outlets.items j ≡ Some p → (o : Outlet) × (slice_get n.outlets.items j ≡ Some o) × (o.entity ≡ p.entity) × (o.attr ≡ p.attr) × (o.vias.items ≡ p.vias.items)
  on j p is = elim (apart_or_same j i) [
    | inl same ↦ let it : d.before ≡ p = some_same (sym d.at_place ∙ sym (ap (slice_get b.outlets.items) same) ∙ is) in
        (d.after, ap (slice_get n.outlets.items) same ∙ at_it, d.taken.entity ∙ ap (λ (q : Outlet). q.entity) it, d.taken.attr ∙ ap (λ (q : Outlet). q.attr) it, d.taken.vias ∙ ap (λ (q : Outlet). q.vias.items) it)
    | inr apart ↦ (p, at_other j apart ∙ is, refl, refl, refl)
  ]

  outputs_of : (j : ℕ) (o : Outlet) → slice_get n.outlets.items j ≡ Some o → AnswersFrom o.vias.items b.until b.marks.least o.log ((with_output S e attr t).outputs o.entity o.attr)
  outputs_of j o is = elim (apart_or_same j i) [
    | inl same ↦
        let it : d.after ≡ o = some_same (sym at_it ∙ sym (ap (slice_get n.outlets.items) same) ∙ is) in
        let mine : is_key e attr d.after ≡ true = (λ k. (d.taken.entity k == e) && same_text (d.taken.attr k) attr) ∙ own in
        let grown : AnswersFrom d.before.vias.items b.until b.marks.least d.after.log (S.outputs d.before.entity d.before.attr ++ t ∷ []) = d.taken.answers (S.outputs d.before.entity d.before.attr) (s.outputs i d.before d.at_place) in
        subst (λ (p : Outlet). AnswersFrom p.vias.items b.until b.marks.least p.log ((with_output S e attr t).outputs p.entity p.attr)) it
        (subst (λ (c : Bool). AnswersFrom d.after.vias.items b.until b.marks.least d.after.log (cond c (S.outputs d.after.entity d.after.attr ++ t ∷ []) (S.outputs d.after.entity d.after.attr))) (sym mine)
        (subst (λ (vs : List Via). AnswersFrom vs b.until b.marks.least d.after.log (S.outputs d.after.entity d.after.attr ++ t ∷ [])) (sym d.taken.vias)
        (subst (λ (f : ℕ). AnswersFrom d.before.vias.items b.until b.marks.least d.after.log (S.outputs f d.after.attr ++ t ∷ [])) (sym d.taken.entity)
        (subst (λ (a : List ℕ). AnswersFrom d.before.vias.items b.until b.marks.least d.after.log (S.outputs d.before.entity a ++ t ∷ [])) (sym d.taken.attr) grown))))
    | inr apart ↦
        let old : slice_get b.outlets.items j ≡ Some o = sym (at_other j apart) ∙ is in
        let not_it : is_key e attr o ≡ false = other j o apart old (is_key e attr o) refl in
        subst (λ (c : Bool). AnswersFrom o.vias.items b.until b.marks.least o.log (cond c (S.outputs o.entity o.attr ++ t ∷ []) (S.outputs o.entity o.attr))) (sym not_it) (s.outputs j o old)
  ]
    where
      other : (j : ℕ) (o : Outlet) → j ≢ i → slice_get b.outlets.items j ≡ Some o → (c : Bool) → is_key e attr o ≡ c → is_key e attr o ≡ false
      other j o apart old true h = let mine = key_is e attr d.before own in
          let same : is_key e attr o ≡ is_key d.before.entity d.before.attr o = sym (λ k. (o.entity == mine.0 k) && same_text o.attr (mine.1 k)) in
          absurd (apart (sym (s.of_plan.once i j d.before o d.at_place old (sym same ∙ h))))
      other j o apart old false h = h

  text_more : (S : Supply) → HasValueTexts S → (f : ℕ) (a : List ℕ) (c : Bool) (u : Timed) → IsIn u (cond c (S.outputs f a ++ t ∷ []) (S.outputs f a)) → IsValueText u.value
  text_more S texts f a true u m = elim (in_either u (S.outputs f a) (t ∷ []) m) [
    | inl r ↦ texts.outputs f a u r
    | inr r ↦ elim r [ inl q ↦ subst (λ (w : Timed). IsValueText w.value) (sym q) text | inr z ↦ absurd z ]
  ]
  text_more S texts f a false u m = texts.outputs f a u m

  shapes : (j : ℕ) (o : Outlet) → slice_get n.outlets.items j ≡ Some o → (p : Outlet) × (slice_get b.outlets.items j ≡ Some p) × (o.entity ≡ p.entity) × (o.attr ≡ p.attr) × (o.vias.items ≡ p.vias.items)
  shapes j o is = elim (apart_or_same j i) [
    | inl same ↦ let it : o ≡ d.after = some_same (sym is ∙ ap (slice_get n.outlets.items) same ∙ at_it) in
        (d.before, ap (slice_get b.outlets.items) same ∙ d.at_place, ap (λ (p : Outlet). p.entity) it ∙ d.taken.entity, ap (λ (p : Outlet). p.attr) it ∙ d.taken.attr, ap (λ (p : Outlet). p.vias.items) it ∙ d.taken.vias)
    | inr apart ↦ (o, sym (at_other j apart) ∙ is, refl, refl, refl)
  ]

  among_of : (j : ℕ) (o : Outlet) → slice_get n.outlets.items j ≡ Some o → IsAmong o.log ((with_output S e attr t).outputs o.entity o.attr)
  among_of j o is = elim (apart_or_same j i) [
    | inl same ↦
        let it : d.after ≡ o = some_same (sym at_it ∙ sym (ap (slice_get n.outlets.items) same) ∙ is) in
        let mine : is_key e attr d.after ≡ true = (λ k. (d.taken.entity k == e) && same_text (d.taken.attr k) attr) ∙ own in
        let grown : IsAmong d.after.log (S.outputs d.before.entity d.before.attr ++ t ∷ []) = d.taken.among (S.outputs d.before.entity d.before.attr) (s.among i d.before d.at_place) in
        subst (λ (p : Outlet). IsAmong p.log ((with_output S e attr t).outputs p.entity p.attr)) it
        (subst (λ (c : Bool). IsAmong d.after.log (cond c (S.outputs d.after.entity d.after.attr ++ t ∷ []) (S.outputs d.after.entity d.after.attr))) (sym mine)
        (subst (λ (f : ℕ). IsAmong d.after.log (S.outputs f d.after.attr ++ t ∷ [])) (sym d.taken.entity)
        (subst (λ (a : List ℕ). IsAmong d.after.log (S.outputs d.before.entity a ++ t ∷ [])) (sym d.taken.attr) grown)))
    | inr apart ↦
        let old : slice_get b.outlets.items j ≡ Some o = sym (at_other j apart) ∙ is in
        add_one o (is_key e attr o) (s.among j o old)
  ]
    where
      add_one : (o : Outlet) (c : Bool) → IsAmong o.log (S.outputs o.entity o.attr) → IsAmong o.log (cond c (S.outputs o.entity o.attr ++ t ∷ []) (S.outputs o.entity o.attr))
      add_one o true f = among_trans o.log (S.outputs o.entity o.attr) (S.outputs o.entity o.attr ++ t ∷ []) f (among_more (S.outputs o.entity o.attr) t)
      add_one o false f = f

  tight_of : IsTight n
  tight_of = record {
    few = λ j o is low. let count : length n.feeds.items ≡ length b.feeds.items = (λ k. length (d.feeds k).items) in subst (λ (u : ℤ). IsFew o.vias.items u n.marks.least o.log) (sym d.until) (subst (λ (m : Marked). IsFew o.vias.items b.until m.least o.log) (sym d.marks) (few_of j o is (omega (arith, low, count)) (apart_or_same j i)));
    stays = λ j o is. subst (λ (u : ℤ). StaysFew o.vias.items u n.marks.least (next_of n o.sim) o.log) (sym d.until) (subst (λ (m : Marked). StaysFew o.vias.items b.until m.least (next_of n o.sim) o.log) (sym d.marks) (stays_of j o is (apart_or_same j i)));
    looked = λ j o is. let p = sim_of j o is (apart_or_same j i) in let l = s.of_plan.tight.looked j p.0 p.1 in record {
      part = l.part;
      at_sim = (λ k. slice_get (d.feeds k).items (p.2 k)) ∙ l.at_sim;
      first = l.first;
      end = l.end;
      noted = omega (arith, l.noted, d.count, p.2);
    };
  }
    where
      after_is : (j : ℕ) (o : Outlet) → slice_get n.outlets.items j ≡ Some o → j ≡ i → d.after ≡ o
      after_is j o is same = some_same (sym at_it ∙ sym (ap (slice_get n.outlets.items) same) ∙ is)

      sim_of : (j : ℕ) (o : Outlet) → slice_get n.outlets.items j ≡ Some o → (j ≡ i) ⊎ (j ≢ i) → (p : Outlet) × (slice_get b.outlets.items j ≡ Some p) × (o.sim ≡ p.sim)
      sim_of j o is (inl same) = (d.before, ap (slice_get b.outlets.items) same ∙ d.at_place, sym (ap (λ (p : Outlet). p.sim) (after_is j o is same)) ∙ d.taken.sim)
      sim_of j o is (inr apart) = (o, sym (at_other j apart) ∙ is, refl)

      few_of : (j : ℕ) (o : Outlet) → slice_get n.outlets.items j ≡ Some o → o.sim < length b.feeds.items → (j ≡ i) ⊎ (j ≢ i) → IsFew o.vias.items b.until b.marks.least o.log
      few_of j o is low (inl same) = subst (λ (p : Outlet). IsFew p.vias.items b.until b.marks.least p.log) (after_is j o is same) d.few
      few_of j o is low (inr apart) = s.of_plan.tight.few j o (sym (at_other j apart) ∙ is) low

      stays_of : (j : ℕ) (o : Outlet) → slice_get n.outlets.items j ≡ Some o → (j ≡ i) ⊎ (j ≢ i) → StaysFew o.vias.items b.until b.marks.least (next_of n o.sim) o.log
      stays_of j o is (inl same) = subst (λ (p : Outlet). StaysFew p.vias.items b.until b.marks.least (next_of n p.sim) p.log) (after_is j o is same)
          (d.stays (let l = (s.of_plan.tight.looked i d.before d.at_place).noted in omega (arith, l, d.taken.sim)))
      stays_of j o is (inr apart) = λ m above due. s.of_plan.tight.stays j o (sym (at_other j apart) ∙ is) m above (d.earlier o.sim m due)

  pub stands_delivered : StandFor P n (with_output S e attr t)
  stands_delivered = record {
    of_plan = of_same P b n back keys on d.inlets d.homes d.feeds (λ k. length (d.sets k).items) (λ k. length (d.marks k).marks) (λ k. (d.marks k).asks) (subst IsLeastMark (sym d.marks) s.of_plan.least) d.until
        (shape_same P b.outlets.items n.outlets.items shapes (ap (sum_by (λ (o : Outlet). length o.vias.items)) d.outlets ∙ sum_set (λ (o : Outlet). length o.vias.items) b.outlets.items i d.before d.after d.at_place (ap length d.taken.vias)) s.of_plan.shape)
        tight_of s.of_plan;
    among = among_of;
    texts = record {
      outputs = λ f a u m. text_more S s.texts f a ((f == e) && same_text a attr) u m;
      gifts = s.texts.gifts;
    };
    gifts = (s.gifts.0, record { by_source = s.gifts.1.by_source; sourced = s.gifts.1.sourced }, λ r l at low. subst (λ (m : Marked). AnswerGifts P r (unwrap_or (slice_get m.marks r) (moment (pos 0))) l s.gifts.0) (sym d.marks) (s.gifts.2 r l (sym (λ k. slice_get (d.sets k).items r) ∙ at) low));
    outputs = λ j o is. subst (λ (u : ℤ). AnswersFrom o.vias.items u n.marks.least o.log ((with_output S e attr t).outputs o.entity o.attr)) (sym d.until)
        (subst (λ (m : Tier). AnswersFrom o.vias.items b.until m o.log ((with_output S e attr t).outputs o.entity o.attr)) (sym (ap (λ (m : Marked). m.least) d.marks)) (outputs_of j o is));
  }

-- new buffers stand for a supply of nothing
pub stands_new : (P : Plan) (b : Buffers) (S : Supply) → IsNew P b → ((e : ℕ) (attr : List ℕ) → S.outputs e attr ≡ []) → ((e : ℕ) → S.gifts e ≡ []) → StandFor P b S
stands_new P b S new none nothing = record {
  of_plan = new.of_plan;
  texts = record {
    outputs = λ e attr t m. absurd (subst (IsIn t) (none e attr) m);
    gifts = λ e g m. absurd (subst (IsIn g) (nothing e) m);
  };
  gifts = ([], record { by_source = λ e low. sym (nothing e); sourced = λ g m. absurd m }, λ s l at low k. subst (λ (q : List Slot). SameLast (mark_of b s) (held_for k q) []) (sym (new.unset s l at)) (same_self (mark_of b s) []));
  outputs = λ i o at. subst (λ (l : List Timed). AnswersFrom o.vias.items b.until b.marks.least o.log l) (sym (none o.entity o.attr))
      (subst (λ (l : List Timed). AnswersFrom o.vias.items b.until b.marks.least l []) (sym (new.empty i o at)) (answers_self o.vias.items b.until b.marks.least []));
  among = λ i o at. subst (λ (l : List Timed). IsAmong l (S.outputs o.entity o.attr)) (sym (new.empty i o at)) (λ test. omega arith);
}

-- a wanted attribute's outlet, by its key
pub outlet_key : (P : Plan) (b : Buffers) (s : ℕ) (w : Want) (i : ℕ) (f : IsOutletFor P b s w i) → HasKey b f.outlet.entity w.attr i
outlet_key P b s w i f = ap (λ (o : Option Outlet). unwrap_or (option_map (is_key f.outlet.entity w.attr) o) false) f.at_place ∙ (λ k. (equal_same f.outlet.entity f.outlet.entity refl k) && same_text (f.attr k) w.attr) ∙ (bytes_eq-Decides w.attr w.attr).1 refl

-- a value that is found is the text of a value
pub value_text : (S : Supply) → HasValueTexts S → (x : Tier) (e : ℕ) (attr : List ℕ) (v : List ℕ) → Some v ≡ value_at S x e attr → IsValueText v
value_text S texts x e attr v is = go (latest (by x (S.outputs e attr))) refl is
  where
    go : (o : Option Timed) → latest (by x (S.outputs e attr)) ≡ o → Some v ≡ option_map (λ (t : Timed). t.value) o → IsValueText v
    go None k is = absurd (none_some (sym is))
    go (Some t) k is = subst IsValueText (sym (some_same is)) (texts.outputs e attr t (in_filter (λ t. up_to t.at x) t (S.outputs e attr) (latest_in (by x (S.outputs e attr)) t k)).0)

pub has_raised : (b n : Buffers) (s : ℕ) (x : Tier) (rose : Bool) → s < length b.marks.marks → Raised s x rose b.marks n.marks → HasRaised s x b n
has_raised b n s x rose low r = let m = below_get b.marks.marks s low in record {
  here = ap (λ (o : Option Tier). unwrap_or o (moment (pos 0))) (r.here m.0 m.1) ∙ ap (λ (y : Tier). greater y x) (sym (ap (λ (o : Option Tier). unwrap_or o (moment (pos 0))) m.1));
  others = λ q apart. ap (λ (o : Option Tier). unwrap_or o (moment (pos 0))) (r.others q apart);
}

pub marks_rise : (b n : Marked) (s : ℕ) (x : Tier) (rose : Bool) → s < length b.marks → Raised s x rose b n → (q : ℕ) → IsUpTo (unwrap_or (slice_get b.marks q) (moment (pos 0))) (unwrap_or (slice_get n.marks q) (moment (pos 0)))
marks_rise b n s x rose low r q = elim (apart_or_same q s) [
  | inl same ↦ subst (λ (p : ℕ). IsUpTo (unwrap_or (slice_get b.marks p) (moment (pos 0))) (unwrap_or (slice_get n.marks p) (moment (pos 0)))) (sym same)
      (let m = below_get b.marks s low in subst (λ (o : Option Tier). IsUpTo (unwrap_or o (moment (pos 0))) (unwrap_or (slice_get n.marks s) (moment (pos 0)))) (sym m.1)
      (subst (λ (o : Option Tier). IsUpTo m.0 (unwrap_or o (moment (pos 0)))) (sym (r.here m.0 m.1)) (grows m.0 x)))
  | inr apart ↦ subst (λ (o : Option Tier). IsUpTo (unwrap_or (slice_get b.marks q) (moment (pos 0))) (unwrap_or o (moment (pos 0)))) (sym (r.others q apart)) (up_to_self (unwrap_or (slice_get b.marks q) (moment (pos 0))))
]
  where
    grows : (m x : Tier) → IsUpTo m (greater m x)
    grows m x = go (up_to x m) refl
      where
        go : (c : Bool) → up_to x m ≡ c → up_to m (cond c m x) ≡ true
        go true e = up_to_self m
        go false e = up_to_total m x e

pub value_texts : {X : Type 0} (f : X → List ℕ) (o : Option X) (S : Supply) → HasValueTexts S → (x : Tier) (e : ℕ) (attr : List ℕ) → option_map f o ≡ value_at S x e attr → IfSome o (λ (y : X). IsValueText (f y))
value_texts f None S texts x e attr is = tt
value_texts f (Some y) S texts x e attr is = value_text S texts x e attr (f y) is

-- outlets that haven't changed hold few outputs
pub same_tight : (P : Plan) (b n : Buffers) → n.outlets.items ≡ b.outlets.items → n.feeds ≡ b.feeds → n.next_marks ≡ b.next_marks → n.until ≡ b.until → n.marks ≡ b.marks → IsTight b → IsTight n
same_tight P b n outs feeds next ends marks t = let count : length n.feeds.items ≡ length b.feeds.items = (λ k. length (feeds k).items) in swept_at n b.marks.least n.marks.least (length n.feeds.items) (λ k. (marks k).least)
    (swept_less n b.marks.least (length b.feeds.items) (length n.feeds.items) (omega (arith, count)) (swept_same b n b.marks.least (length b.feeds.items) outs feeds next ends t))

-- what hasn't changed stands for what it stood for
pub stands_unchanged : (P : Plan) (b n : Buffers) (S : Supply) → StandFor P b S → IsUnchanged b n → StandFor P n S
stands_unchanged P b n S st u = record {
  of_plan = of_same P b n (λ i o at. (o, sym (λ k. slice_get (u.outlets k) i) ∙ at, refl, refl)) (λ e attr i k. has_key (u.outlets k) e attr i) (λ i p at. (p, (λ k. slice_get (u.outlets k) i) ∙ at, refl, refl, refl))
      u.inlets u.homes u.feeds (λ k. length (u.sets k)) (λ k. length (u.marks k).marks) (λ k. (u.marks k).asks) (subst IsLeastMark (sym u.marks) st.of_plan.least) u.until (subst (HasShape P) (sym u.outlets) st.of_plan.shape) (same_tight P b n (λ k. u.outlets k) u.feeds u.next_marks u.until u.marks st.of_plan.tight) st.of_plan;
  among = λ i o at. st.among i o (sym (λ k. slice_get (u.outlets k) i) ∙ at);
  texts = st.texts;
  gifts = (st.gifts.0, st.gifts.1, λ r l at low. subst (λ (m : Marked). AnswerGifts P r (unwrap_or (slice_get m.marks r) (moment (pos 0))) l st.gifts.0) (sym u.marks) (st.gifts.2 r l (sym (λ k. slice_get (u.sets k) r) ∙ at) low));
  outputs = λ i o at. subst (λ (t : ℤ). AnswersFrom o.vias.items t n.marks.least o.log (S.outputs o.entity o.attr)) (sym u.until)
      (subst (λ (m : Marked). AnswersFrom o.vias.items b.until m.least o.log (S.outputs o.entity o.attr)) (sym u.marks) (st.outputs i o (sym (λ k. slice_get (u.outlets k) i) ∙ at)));
}

-- the least mark
pub least_low : (P : Plan) (b : Buffers) (S : Supply) (s : ℕ) → StandFor P b S → s < length P.sims → asks_of P s ≡ true → IsUpTo b.marks.least (mark_of b s)
least_low P b S s st low asks =
    let mark = below_get b.marks.marks s (omega (arith, low, st.of_plan.sizes.marks)) in
    subst (IsUpTo b.marks.least) (sym (ap (λ (o : Option Tier). unwrap_or o (moment (pos 0))) mark.1)) (st.of_plan.least.low s mark.0 (st.of_plan.asking.each s low ∙ ap Some asks) mark.1)

pub least_held : (P : Plan) (b : Buffers) (S : Supply) (s : ℕ) → StandFor P b S → s < length P.sims → asks_of P s ≡ true → (r : ℕ) × (asks_of P r ≡ true) × (mark_of b r ≡ b.marks.least)
least_held P b S s st low asks =
    let h = st.of_plan.least.held s (st.of_plan.asking.each s low ∙ ap Some asks) in
    let there : h.0 < length P.sims = let l = (get_is b.marks.asks h.0 true h.1).0 in omega (arith, l, st.of_plan.asking.count) in
    (h.0, some_same (sym (st.of_plan.asking.each h.0 there) ∙ h.1), ap (λ (o : Option Tier). unwrap_or o (moment (pos 0))) h.2)
