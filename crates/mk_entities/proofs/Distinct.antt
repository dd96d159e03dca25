-- Each entity is the first of its simulator with its eid.
use Rattle.std.proofs.Common.{◌≡◌, ℕ, zero, suc, ◌+◌, ◌<◌, ◌≤◌, Bool, true, false, not, List, [], ◌∷◌, ◌++◌, map, length, take, drop, Option, Some, None, refl, sym, ap, ◌∙◌, arith, slice_get, position, unwrap_or, is_some, length-append, length-take, append_assoc, ◌⊎◌, inl, inr, nat_lt, ◌==◌}
use Rattle.std.specs.Prelude.{option_map, option_and_then}
use Rattle.std.specs.List.{range_with_len}
use Rattle.std.proofs.lemmas.List.{length-map, map-append}
use Rattle.mk_base.specs.declared.SimNo.{SimNo}
use Rattle.mk_base.specs.Lists.{same_text}
use Rattle.mk_base.proofs.Lists.{none_some, some_same}
use Rattle.mk_base.proofs.AtPlaces.{place_first, place_later}
use Rattle.mk_base.specs.Verdicts.{fault_unless}
use Rattle.mk_meta.specs.declared.meta.Meta.{Meta}
use Rattle.mk_entities.specs.declared.described.Described.{Described}
use Rattle.mk_entities.specs.declared.entities.EntityInfo.{EntityInfo}
use Rattle.mk_entities.specs.declared.fault.CreateFault.{CreateFault}
use Rattle.mk_entities.specs.declared.fault.CreateFault.TheVariants.{NoEid, TwiceEid, OfType, TooMany}
use Rattle.mk_entities.specs.Creation.{entity_fault, first_there, after_text, has_type, is_named, entity_number}
use Rattle.mk_entities.specs.inner.Making.{fault_at, first_fault, named_from, number_in}
use Rattle.mk_entities.specs.Tied.{AreFirst}
use Rattle.mk_entities.specs.inner.Tied.{numbered}
use Rattle.mk_entities.proofs.Adding.{numbered_append, numbered_own}
use Rattle.mk_entities.proofs.Lookups.{number_is}
use Rattle.mk_base.specs.Limits.{most_entities}
use Rattle.mk_base.proofs.Items.{same_text_self}
use Rattle.mk_base.proofs.Counts.{same_self}

-- ---- where no test fails

pub none_at : {X : Type 0} (f : ℕ → Option X) (a n k : ℕ) → first_there (map f (range_with_len a n)) ≡ None → a ≤ k → k < a + n → f k ≡ None
none_at f a zero k none low high = absurd (omega arith)
none_at {X} f a (suc n) k none low high = at (f a) refl (apart k a low) none (none_at f (a + 1) n k)
  where
    apart : (k a : ℕ) → a ≤ k → (a ≡ k) ⊎ (a + 1 ≤ k)
    apart k a h = grind arith

    at : (r : Option X) → f a ≡ r → (a ≡ k) ⊎ (a + 1 ≤ k) → first_there (r ∷ map f (range_with_len (a + 1) n)) ≡ None
        → (first_there (map f (range_with_len (a + 1) n)) ≡ None → a + 1 ≤ k → k < a + 1 + n → f k ≡ None) → f k ≡ None
    at (Some x) is where_k none more = cc
    at None is (inl same) none more = ap f (sym same) ∙ is
    at None is (inr above) none more = more none above (omega arith)

missing : (r : Option ℕ) (fault : CreateFault) (next : Option CreateFault) → fault_unless fault (not (is_some r)) next ≡ None → r ≡ None
missing None fault next none = refl
missing (Some n) fault next none = cc

-- an entity that passes its tests has a new eid
new_eid : (number : List ℕ → Option ℕ) (count : ℕ) (model : List ℕ) (meta : Meta) (n : ℕ) (e : Described) → entity_fault number count model meta n e ≡ None → number (unwrap_or e.eid []) ≡ None
new_eid number count model meta n e none = at e.eid none
  where
    at : (eid : Option (List ℕ)) → after_text (NoEid n) eid (λ t. fault_unless (TwiceEid t) (not (is_some (number t))) (fault_unless (OfType t) (has_type model meta e) (fault_unless (TooMany (most_entities + 1)) (nat_lt count most_entities) None))) ≡ None → number (unwrap_or eid []) ≡ None
    at None none = cc
    at (Some t) none = missing (number t) (TwiceEid t) (fault_unless (OfType t) (has_type model meta e) (fault_unless (TooMany (most_entities + 1)) (nat_lt count most_entities) None)) none

-- ---- the first place in a longer list

module _ {X : Type 0} (p : X → Bool) where
  there_still : (xs ys : List X) (i : ℕ) → position p xs ≡ Some i → position p (xs ++ ys) ≡ Some i
  there_still [] ys i is = absurd (none_some is)
  there_still (x ∷ xs) ys i is = at (p x) refl (there_still xs ys)
    where
      further : (r s : Option ℕ) (i : ℕ) → ((j : ℕ) → r ≡ Some j → s ≡ Some j) → option_map suc r ≡ Some i → option_map suc s ≡ Some i
      further None s i more is = cc
      further (Some j) s i more is = ap (option_map suc) (more j refl) ∙ is

      at : (b : Bool) → p x ≡ b → ((j : ℕ) → position p xs ≡ Some j → position p (xs ++ ys) ≡ Some j) → position p (x ∷ xs ++ ys) ≡ Some i
      at true here more = place_first p x (xs ++ ys) here ∙ sym (place_first p x xs here) ∙ is
      at false here more = place_later p x (xs ++ ys) here ∙ further (position p xs) (position p (xs ++ ys)) i more (sym (place_later p x xs here) ∙ is)

  there_next : (xs ys : List X) (y : X) → position p xs ≡ None → p y ≡ true → position p (xs ++ y ∷ ys) ≡ Some (length xs)
  there_next [] ys y none passes = place_first p y ys passes
  there_next (x ∷ xs) ys y none passes = at (p x) refl (λ h. there_next xs ys y h passes)
    where
      before : (r : Option ℕ) → option_map suc r ≡ None → r ≡ None
      before None e = refl
      before (Some i) e = cc

      at : (b : Bool) → p x ≡ b → (position p xs ≡ None → position p (xs ++ y ∷ ys) ≡ Some (length xs)) → position p (x ∷ xs ++ y ∷ ys) ≡ Some (suc (length xs))
      at true here more = absurd (none_some (sym none ∙ place_first p x xs here))
      at false here more = place_later p x (xs ++ y ∷ ys) here ∙ ap (option_map suc) (more (before (position p xs) (sym (place_later p x xs here) ∙ none)))

-- ---- after the reply

get_split : {X : Type 0} (xs ys : List X) (i : ℕ) (x : X) → slice_get (xs ++ ys) i ≡ Some x → (slice_get xs i ≡ Some x) ⊎ ((n : ℕ) × (i ≡ length xs + n) × (slice_get ys n ≡ Some x))
get_split [] ys i x is = inr (i, zero_more i, is)
  where
    zero_more : (n : ℕ) → n ≡ 0 + n
    zero_more n = omega arith
get_split (z ∷ xs) ys zero x is = inl is
get_split (z ∷ xs) ys (suc i) x is = elim (get_split xs ys i x is) [ inl h ↦ inl h | inr t ↦ inr (t.0, next i (length xs) t.0 t.1, t.2) ]
  where
    next : (i m n : ℕ) → i ≡ m + n → suc i ≡ suc m + n
    next i m n e = omega arith

get_map : {X Y : Type 0} (f : X → Y) (xs : List X) (n : ℕ) (y : Y) → slice_get (map f xs) n ≡ Some y → (x : X) × (slice_get xs n ≡ Some x) × (f x ≡ y)
get_map f [] n y is = absurd (none_some is)
get_map f (x ∷ xs) zero y is = (x, refl, some_same is)
get_map f (x ∷ xs) (suc n) y is = get_map f xs n y is

parted : {X : Type 0} (xs : List X) (n : ℕ) (x : X) → slice_get xs n ≡ Some x → (n < length xs) × (xs ≡ take n xs ++ x ∷ drop (suc n) xs)
parted [] n x is = absurd (none_some is)
parted (z ∷ xs) zero x is = (omega arith, ap (λ y. y ∷ xs) (some_same is))
parted (z ∷ xs) (suc n) x is = let t = parted xs n x is in (omega (arith, t.0), ap (λ l. z ∷ l) t.1)

module _ (old : List EntityInfo) (sim : SimNo) (model : List ℕ) (meta : Meta) (es : List Described) (make : Described → EntityInfo)
    (own_sim : (e : Described) → (make e).sim ≡ sim) (own_eid : (e : Described) → (make e).eid ≡ unwrap_or e.eid []) (found_old : AreFirst old)
    (passed : first_fault (numbered sim.0 0 old) (length old) model meta es ≡ None) where
  so_far : (n : ℕ) (text : List ℕ) → entity_number (old ++ map make (take n es)) sim text ≡ number_in (numbered sim.0 0 old ++ named_from (length old) (take n es)) text
  so_far n text = sym (number_is sim (old ++ map make (take n es)) text)
      ∙ ap (λ names. number_in names text) (numbered_append sim.0 0 old (map make (take n es)) ∙ ap (λ l. numbered sim.0 0 old ++ l) (numbered_own sim make (λ e. ap (λ (s : SimNo). s.0) (own_sim e)) own_eid (0 + length old) (take n es) ∙ ap (λ k. named_from k (take n es)) (zero_more (length old))))
    where
      zero_more : (n : ℕ) → 0 + n ≡ n
      zero_more n = omega arith

  not_before : (n : ℕ) (e : Described) → slice_get es n ≡ Some e → entity_number (old ++ map make (take n es)) sim (unwrap_or e.eid []) ≡ None
  not_before n e is =
      let number = number_in (numbered sim.0 0 old ++ named_from (length old) (take n es)) in
      let below = (parted es n e is).0 in
      let none = none_at (fault_at (numbered sim.0 0 old) (length old) model meta es) 0 (length es) n passed (omega arith) (omega arith) in
      so_far n (unwrap_or e.eid []) ∙ new_eid number (length old + n) model meta n e (ap (option_and_then (entity_fault number (length old + n) model meta n)) (sym is) ∙ none)

  own_passes : (e : Described) → is_named sim (unwrap_or e.eid []) (make e) ≡ true
  own_passes e =
      let sim_is : ((make e).sim.0 == sim.0) ≡ true = ap (λ (s : SimNo). s.0 == sim.0) (own_sim e) ∙ same_self sim.0 in
      let eid_is : same_text (make e).eid (unwrap_or e.eid []) ≡ true = ap (λ t. same_text t (unwrap_or e.eid [])) (own_eid e) ∙ same_text_self (unwrap_or e.eid []) in
      rw sim_is eid_is

  made_found : (n : ℕ) (e : Described) → slice_get es n ≡ Some e → entity_number (old ++ map make es) sim (unwrap_or e.eid []) ≡ Some (length old + n)
  made_found n e is =
      let t = parted es n e is in
      let front = map make (take n es) in
      let rest = map make (drop (suc n) es) in
      let split : old ++ map make es ≡ (old ++ front) ++ make e ∷ rest = ap (λ l. old ++ l) (ap (map make) t.1 ∙ map-append make (take n es) (e ∷ drop (suc n) es)) ∙ sym (append_assoc old front (make e ∷ rest)) in
      let long : length front ≡ length (take n es) = length-map (take n es) make in
      let below = t.0 in
      let all : length (old ++ front) ≡ length old + n = omega (arith, length-append old front, long, length-take n es) in
      ap (position (is_named sim (unwrap_or e.eid []))) split ∙ there_next (is_named sim (unwrap_or e.eid [])) (old ++ front) rest (make e) (not_before n e is) (own_passes e) ∙ ap Some all

  pub still_found : AreFirst (old ++ map make es)
  still_found i x is = at (get_split old (map make es) i x is)
    where
      made : (n : ℕ) → i ≡ length old + n → (e : Described) → slice_get es n ≡ Some e → make e ≡ x → entity_number (old ++ map make es) x.sim x.eid ≡ Some i
      made n place e there same =
          ap (λ (y : EntityInfo). entity_number (old ++ map make es) y.sim y.eid) (sym same)
          ∙ ap (λ s. entity_number (old ++ map make es) s (make e).eid) (own_sim e)
          ∙ ap (entity_number (old ++ map make es) sim) (own_eid e)
          ∙ made_found n e there ∙ ap Some (sym place)

      at : (slice_get old i ≡ Some x) ⊎ ((n : ℕ) × (i ≡ length old + n) × (slice_get (map make es) n ≡ Some x)) → entity_number (old ++ map make es) x.sim x.eid ≡ Some i
      at (inl h) = there_still (is_named x.sim x.eid) old (map make es) i (found_old i x h)
      at (inr t) = let m = get_map make es t.0 x t.2 in made t.0 t.1 m.0 m.1 m.2
