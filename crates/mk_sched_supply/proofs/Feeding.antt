-- The feeds of simulators, as connections are added one by one.
use Rattle.std.proofs.Common.{◌≡◌, ℕ, zero, suc, ◌+◌, Bool, true, false, ◌&&◌, List, [], ◌∷◌, ◌++◌, length, map, take, slice_get, slice_set, Some, option_map, unwrap_or, sym, ap, ◌∙◌, subst, inl, inr, add-one, ◌==◌, if◌then◌else◌}
use Rattle.std.proofs.lemmas.List.{length-map}
use Rattle.std.proofs.lemmas.Bool.{eq-eqb}
use Rattle.mk_base.specs.Lists.{IsIn}
use Rattle.mk_base.proofs.Lists.{append_nil, at_in, filter_append, in_either, length_set, map_append, set_else, set_here, some_same}
use Rattle.mk_plan.specs.declared.Plan.{Plan}
use Rattle.mk_plan.specs.declared.Conn.{Conn}
use Rattle.mk_plan.specs.declared.PlanEntity.{PlanEntity}
use Rattle.mk_plan.specs.declared.Want.{Want}
use Rattle.mk_plan.specs.Plans.{owner, eid_of}
use Rattle.mk_plan.specs.Turns.{wanted, want_of}
use Rattle.mk_plan_judge.proofs.Taken.{taken_is_wanted}
use Rattle.mk_sched_supply.specs.declared.feeds.Feed.{Feed}
use Rattle.mk_sched_supply.specs.Stock.{ArePlaces, IsFeedOf}
use Rattle.mk_sched_supply.specs.inner.Making.{AreFeedsOf, HasNoTriggers, IsFeedSoFar, names_of}
use Rattle.mk_plan.specs.Deliveries.{triggering_in}
use Rattle.mk_base.proofs.Counts.{not_same, same_or_not}
use Rattle.mk_base.proofs.Items.{take_get, take_all}

pub get_map : {X Y : Type 0} (f : X → Y) (xs : List X) (i : ℕ) (x : X) → slice_get xs i ≡ Some x → slice_get (map f xs) i ≡ Some (f x)
get_map f [] i x at = cc
get_map f (y ∷ ys) zero x at = ap Some (ap f (some_same at))
get_map f (y ∷ ys) (suc i) x at = get_map f ys i x at

module _ (P : Plan) where
  module _ (k : ℕ) (c : Conn) (there : slice_get P.conns k ≡ Some c) where
    triggering_more : (s : ℕ) (b : Bool) → (c.triggering && (owner P c.from == s)) ≡ b → triggering_in P s (take (k + 1) P.conns) ≡ triggering_in P s (take k P.conns) ++ (if b then c ∷ [] else [])
    triggering_more s b is = ap (triggering_in P s) (ap (λ (n : ℕ). take n P.conns) (add-one k) ∙ take_get P.conns k c there) ∙ filter_append (λ (d : Conn). d.triggering && (owner P d.from == s)) (take k P.conns) (c ∷ [])
        ∙ ap (λ (b : Bool). triggering_in P s (take k P.conns) ++ (if b then c ∷ [] else [])) is

    same_places : (s : ℕ) → (c.triggering && (owner P c.from == s)) ≡ false → (ps : List ℕ) → ArePlaces P s (triggering_in P s (take k P.conns)) ps → ArePlaces P s (triggering_in P s (take (k + 1) P.conns)) ps
    same_places s off ps h = subst (λ (cs : List Conn). ArePlaces P s cs ps) (sym (triggering_more s false off ∙ append_nil (triggering_in P s (take k P.conns)))) h

    more_places : (s p : ℕ) → (c.triggering && (owner P c.from == s)) ≡ true → (ps : List ℕ) → slice_get (wanted P s) p ≡ Some (want_of P c) → ArePlaces P s (triggering_in P s (take k P.conns)) ps → ArePlaces P s (triggering_in P s (take (k + 1) P.conns)) (ps ++ p ∷ [])
    more_places s p on ps at h = map_append (λ p. slice_get (wanted P s) p) ps (p ∷ []) ∙ (λ i. h i ++ at i ∷ []) ∙ sym (map_append (λ c. Some (want_of P c)) (triggering_in P s (take k P.conns)) (c ∷ []))
        ∙ ap (map (λ c. Some (want_of P c))) (sym (triggering_more s true on))

    pub feeds_kept : (F : List Feed) → c.triggering ≡ false → AreFeedsOf P k F → AreFeedsOf P (k + 1) F
    feeds_kept F off fs = record { count = fs.count; each = λ s f at. let o = fs.each s f at in record { wants = o.wants; places = same_places s (ap (λ (b : Bool). b && (owner P c.from == s)) off) f.triggers.items o.places } }

    pub feeds_pushed : (F : List Feed) (s p : ℕ) (old new : Feed) → s ≡ owner P c.from → c.triggering ≡ true → slice_get F s ≡ Some old → new.wants ≡ old.wants → new.triggers.items ≡ old.triggers.items ++ p ∷ []
        → slice_get (wanted P s) p ≡ Some (want_of P c) → AreFeedsOf P k F → AreFeedsOf P (k + 1) (slice_set F s new)
    feeds_pushed F s p old new from on here wants grown at fs = record { count = length_set F s new ∙ fs.count; each = each }
      where
        this : IsFeedSoFar P (k + 1) s new
        this = let o = fs.each s old here in record {
          wants = wants ∙ o.wants;
          places = subst (ArePlaces P s (triggering_in P s (take (k + 1) P.conns))) (sym grown) (more_places s p (ap (λ (b : Bool). b && (owner P c.from == s)) on ∙ eq-eqb (owner P c.from) s (sym from)) old.triggers.items at o.places);
        }

        each : (r : ℕ) (f : Feed) → slice_get (slice_set F s new) r ≡ Some f → IsFeedSoFar P (k + 1) r f
        each r f is = elim (same_or_not r s) [
          | inl e ↦ subst (λ (i : ℕ). IsFeedSoFar P (k + 1) i f) (sym e) (subst (IsFeedSoFar P (k + 1) s) (some_same (sym (set_here F s new old here) ∙ ap (λ (i : ℕ). slice_get (slice_set F s new) i) (sym e) ∙ is)) this)
          | inr n ↦ let o = fs.each r f (sym (set_else F s r new n) ∙ is) in
              record { wants = o.wants; places = same_places r (ap (λ (b : Bool). b && (owner P c.from == r)) on ∙ not_same (owner P c.from) r (λ q. n (sym q ∙ sym from))) f.triggers.items o.places }
        ]

    -- what the connection takes stands among the wants
    pub conn_wanted : (s : ℕ) → s ≡ owner P c.from → IsIn (let w : Want = record { eid = eid_of P c.from; attr = c.from_attr } in w) (wanted P s)
    conn_wanted s from = taken_is_wanted P c s (at_in c P.conns k there) (sym from)

    pub named_taken : (n : PlanEntity) → slice_get P.entities c.from ≡ Some n → names_of n.eid c.from_attr ≡ want_of P c
    named_taken n at = λ i. record { eid = eid_is i; attr = c.from_attr }
      where
        eid_is : n.eid ≡ eid_of P c.from
        eid_is = sym (ap (λ o. unwrap_or (option_map (λ (n : PlanEntity). n.eid) o) []) at)

  -- before any connection
  pub feeds_none : (F : List Feed) → HasNoTriggers P F → AreFeedsOf P 0 F
  feeds_none F none = record { count = none.count; each = λ s f at. let o = none.each s f at in record { wants = o.0; places = ap (map (λ p. slice_get (wanted P s) p)) o.1 } }

  -- one feed for each of the wants
  pub feeds_new : (F : List Feed) (lists : List (List Want)) → map (λ f. f.wants) F ≡ lists → ((f : Feed) → IsIn f F → f.triggers.items ≡ []) → length lists ≡ length P.sims → ((s : ℕ) (ws : List Want) → slice_get lists s ≡ Some ws → ws ≡ wanted P s) → HasNoTriggers P F
  feeds_new F lists is none count each = record {
    count = sym (length-map F (λ (f : Feed). f.wants)) ∙ ap length is ∙ count;
    each = λ s f at. (each s f.wants (ap (λ (l : List (List Want)). slice_get l s) (sym is) ∙ get_map (λ (f : Feed). f.wants) F s f at), none f (at_in f F s at));
  }

  pub no_trigger_more : (F G : List Feed) (new : Feed) → ((f : Feed) → IsIn f F → f.triggers.items ≡ []) → G ≡ F ++ new ∷ [] → new.triggers.items ≡ [] → (f : Feed) → IsIn f G → f.triggers.items ≡ []
  no_trigger_more F G new none is empty f m = elim (in_either f F (new ∷ []) (subst (IsIn f) is m)) [
    | inl r ↦ none f r
    | inr r ↦ elim r [ inl q ↦ ap (λ (f : Feed). f.triggers.items) q ∙ empty | inr z ↦ absurd z ]
  ]

  pub wants_more : (F G : List Feed) (new : Feed) (w : List Want) (lists : List (List Want)) → map (λ f. f.wants) F ≡ lists → G ≡ F ++ new ∷ [] → new.wants ≡ w → map (λ f. f.wants) G ≡ lists ++ w ∷ []
  wants_more F G new w lists so_far is of = ap (map (λ (f : Feed). f.wants)) is ∙ map_append (λ (f : Feed). f.wants) F (new ∷ []) ∙ (λ i. so_far i ++ of i ∷ [])

  pub feeds_whole : (F : List Feed) (n : ℕ) → n ≡ length P.conns → AreFeedsOf P n F → (s : ℕ) (f : Feed) → slice_get F s ≡ Some f → IsFeedOf P s f
  feeds_whole F n all fs s f at = let o = fs.each s f at in record { wants = o.wants; places = subst (λ (cs : List Conn). ArePlaces P s (triggering_in P s cs) f.triggers.items) (ap (λ (m : ℕ). take m P.conns) all ∙ take_all P.conns) o.places }
