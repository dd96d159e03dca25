-- The places of a simulator's entries: which of them is next, and one entry more.
use Rattle.std.proofs.Common.{◌≡◌, inl, inr, ℕ, zero, suc, ◌+◌, ◌-◌, ◌<◌, ◌≤◌, ◌==◌, Bool, true, false, not, ◌&&◌, List, [], ◌∷◌, ◌++◌, length, map, filter, take, drop, get_or, slice_get, slice_set, Option, Some, None, option_copied, MatchOption, IfSome, Bor, if◌then◌else◌, refl, sym, ap, ◌∙◌, subst, arith, length-append, true≢false}
use Rattle.std.proofs.lemmas.Bool.{cases_eq, eqb-true, eq-eqb}
use Rattle.std.proofs.lemmas.List.{take-append-drop}
use Rattle.std.proofs.Math.Seq.{take-append-add}
use Rattle.mk_base.specs.Lists.{BeginsWith}
use Rattle.mk_base.proofs.Lists.{none_some, some_same, append_nil, filter_append, get_is, map_append, set_else, set_here}
use Rattle.mk_plan.specs.declared.Entry.{Entry}
use Rattle.mk_plan.specs.Journals.{sim_of}
use Rattle.mk_resume_walk.specs.Walks.{has_none, IsFirstOwn, is_of}
use Rattle.mk_resume_walk.specs.Index.{Indexed, IsIndexOf, IsIndexOfPart, own_count, places_from}

-- ---- the place behind those gone through

-- the first entry of simulator i from this place on, where the first entry of all stands at `first`
abbrev Finds : ℕ → List Entry → ℕ → ℕ → Option ℕ → Type 0
Finds first J i from None = has_none i (drop from J) ≡ true
Finds first J i from (Some p) = (between : List Entry) × (e : Entry) × (later : List Entry) × (drop from J ≡ between ++ e ∷ later) × (has_none i between ≡ true) × (is_of i e ≡ true) × (p ≡ first + from + length between)

-- one entry of another in front
further : (i first : ℕ) (e : Entry) (J : List Entry) (r : Option ℕ) → is_of i e ≡ false → Finds (suc first) J i 0 r → Finds first (e ∷ J) i 0 r
further i first e J None other none = ap (λ (b : Bool). not b && has_none i J) other ∙ none
further i first e J (Some p) other (between, d, later, is, none, own, at) =
    (e ∷ between, d, later, ap (λ (l : List Entry). e ∷ l) is, ap (λ (b : Bool). not b && has_none i between) other ∙ none, own, omega (arith, at))

-- one entry in front, which was gone through
behind : (i first from : ℕ) (e : Entry) (J : List Entry) (r : Option ℕ) → Finds (suc first) J i from r → Finds first (e ∷ J) i (suc from) r
behind i first from e J None none = none
behind i first from e J (Some p) (between, d, later, is, none, own, at) = (between, d, later, is, none, own, omega (arith, at))

-- the place at that number is that of the first entry behind those
finds : (i first from : ℕ) (J : List Entry) → Finds first J i from (slice_get (places_from i first J) (own_count i (take from J)))
finds i first zero [] = refl
finds i first (suc from) [] = refl
finds i first zero (e ∷ J) = go (finds i (suc first) zero J) (is_of i e) refl
  where
    go : Finds (suc first) J i 0 (slice_get (places_from i (suc first) J) 0) → (b : Bool) → is_of i e ≡ b → Finds first (e ∷ J) i 0 (slice_get (if b then first ∷ places_from i (suc first) J else places_from i (suc first) J) 0)
    go later true own = ([], e, J, refl, refl, own, (let n : first ≡ first + 0 + 0 = omega arith in n))
    go later false other = further i first e J (slice_get (places_from i (suc first) J) 0) other later
finds i first (suc from) (e ∷ J) = go (behind i first from e J (slice_get (places_from i (suc first) J) (own_count i (take from J))) (finds i (suc first) from J)) (is_of i e)
  where
    go : Finds first (e ∷ J) i (suc from) (slice_get (places_from i (suc first) J) (own_count i (take from J)))
        → (b : Bool) → Finds first (e ∷ J) i (suc from) (slice_get (if b then first ∷ places_from i (suc first) J else places_from i (suc first) J) (length (if b then e ∷ filter (is_of i) (take from J) else filter (is_of i) (take from J))))
    go h true = h
    go h false = h

first_own : (J : List Entry) (i from : ℕ) (r : Option ℕ) → Finds 0 J i from r → IsFirstOwn J i from r
first_own J i from None none = none
first_own J i from (Some p) (between, e, later, is, none, own, at) = (between, e, later, is, none, own, omega (arith, at))

pub next_own : (J : List Entry) (gone : Indexed) (i from count : ℕ) (places : List ℕ) (r : Option ℕ) → IsIndexOf J gone → slice_get gone.own i ≡ Some places → count ≡ own_count i (take from J) → r ≡ slice_get places count → IsFirstOwn J i from r
next_own J gone i from count places r are there counted is =
    first_own J i from r (subst (Finds 0 J i from) (ap (slice_get (places_from i 0 J)) (sym counted) ∙ ap (λ (l : List ℕ). slice_get l count) (sym (are.own i places there)) ∙ sym is) (finds i 0 from J))

-- ---- behind that place

filter_none : (i : ℕ) (B : List Entry) → has_none i B ≡ true → filter (is_of i) B ≡ []
filter_none i [] none = refl
filter_none i (e ∷ B) none = go (is_of i e) none (λ h. filter_none i B h)
  where
    go : (b : Bool) → (not b && has_none i B) ≡ true → (has_none i B ≡ true → filter (is_of i) B ≡ []) → (if b then e ∷ filter (is_of i) B else filter (is_of i) B) ≡ []
    go true none rec = absurd (true≢false (sym none))
    go false none rec = rec none

take_behind : (from : ℕ) (xs between later : List Entry) (x : Entry) → drop from xs ≡ between ++ x ∷ later → take (from + length between + 1) xs ≡ take from xs ++ (between ++ x ∷ [])
take_behind zero xs between later x is = ap (take (0 + length between + 1)) is ∙ ap (λ (k : ℕ). take k (between ++ x ∷ later)) (let n : 0 + length between + 1 ≡ suc (length between) = omega arith in n) ∙ up between
  where
    up : (B : List Entry) → take (suc (length B)) (B ++ x ∷ later) ≡ B ++ x ∷ []
    up [] = refl
    up (y ∷ B) = ap (λ l. y ∷ l) (up B)
take_behind (suc from) [] [] later x is = absurd (cc)
take_behind (suc from) [] (y ∷ between) later x is = absurd (cc)
take_behind (suc from) (y ∷ xs) between later x is = ap (λ (k : ℕ). take k (y ∷ xs)) (let n : suc from + length between + 1 ≡ suc (from + length between + 1) = omega arith in n) ∙ ap (λ l. y ∷ l) (take_behind from xs between later x is)

pub counted_behind : (J : List Entry) (i from p : ℕ) → IsFirstOwn J i from (Some p) → own_count i (take (p + 1) J) ≡ own_count i (take from J) + 1
counted_behind J i from p (between, e, later, is, none, own, at) =
    ap (λ (k : ℕ). own_count i (take (k + 1) J)) at ∙ ap (own_count i) (take_behind from J between later e is)
    ∙ ap length (filter_append (is_of i) (take from J) (between ++ e ∷ []) ∙ ap (λ (l : List Entry). filter (is_of i) (take from J) ++ l) one)
    ∙ length-append (filter (is_of i) (take from J)) (e ∷ [])
  where
    one : filter (is_of i) (between ++ e ∷ []) ≡ e ∷ []
    one = filter_append (is_of i) between (e ∷ []) ∙ ap (λ (l : List Entry). l ++ filter (is_of i) (e ∷ [])) (filter_none i between none) ∙ ap (λ (b : Bool). if b then e ∷ [] else []) own

-- ---- one entry more

own_is : (i : ℕ) (e : Entry) → i ≡ sim_of e → is_of i e ≡ true
own_is i e same = eq-eqb (sim_of e) i (sym same)

other_is : (i : ℕ) (e : Entry) → (i ≡ sim_of e → ⊥) → is_of i e ≡ false
other_is i e apart = elim (sim_of e == i) as (λ b. (sim_of e == i) ≡ b → b ≡ false) [ true ↦ λ h. absurd (apart (sym (eqb-true (sim_of e) i h))) | false ↦ λ h. refl ] refl

places_push : (i first : ℕ) (J : List Entry) (e : Entry) → places_from i first (J ++ e ∷ []) ≡ places_from i first J ++ (if is_of i e then (first + length J) ∷ [] else [])
places_push i first [] e = ap (λ (n : ℕ). if is_of i e then n ∷ [] else []) (let n : first ≡ first + 0 = omega arith in n)
places_push i first (d ∷ J) e = go (is_of i d) (places_push i (suc first) J e ∙ ap (λ (n : ℕ). places_from i (suc first) J ++ (if is_of i e then n ∷ [] else [])) (let n : suc first + length J ≡ first + suc (length J) = omega arith in n))
  where
    go : (b : Bool) → places_from i (suc first) (J ++ e ∷ []) ≡ places_from i (suc first) J ++ (if is_of i e then (first + suc (length J)) ∷ [] else [])
        → (if b then first ∷ places_from i (suc first) (J ++ e ∷ []) else places_from i (suc first) (J ++ e ∷ [])) ≡ (if b then first ∷ places_from i (suc first) J else places_from i (suc first) J) ++ (if is_of i e then (first + suc (length J)) ∷ [] else [])
    go true h = ap (λ (l : List ℕ). first ∷ l) h
    go false h = h

own_push : (i : ℕ) (J : List Entry) (e : Entry) → i ≡ sim_of e → places_from i 0 (J ++ e ∷ []) ≡ places_from i 0 J ++ length J ∷ []
own_push i J e same = places_push i 0 J e ∙ ap (λ (b : Bool). places_from i 0 J ++ (if b then (0 + length J) ∷ [] else [])) (own_is i e same) ∙ ap (λ (n : ℕ). places_from i 0 J ++ n ∷ []) (let n : 0 + length J ≡ length J = omega arith in n)

other_push : (i : ℕ) (J : List Entry) (e : Entry) → (i ≡ sim_of e → ⊥) → places_from i 0 (J ++ e ∷ []) ≡ places_from i 0 J
other_push i J e apart = places_push i 0 J e ∙ ap (λ (b : Bool). places_from i 0 J ++ (if b then (0 + length J) ∷ [] else [])) (other_is i e apart) ∙ append_nil (places_from i 0 J)

counted : (J : List Entry) (e : Entry) (n : ℕ) → n ≡ length J → n + 1 ≡ length (J ++ e ∷ [])
counted J e n is = ap (λ (k : ℕ). k + 1) is ∙ sym (length-append J (e ∷ []))

-- the entry's place stands behind its simulator's others
pub noted : (J : List Entry) (e : Entry) (own : List (List ℕ)) (count : ℕ) (old : List ℕ) → IsIndexOf J (record { own = own; count = count }) → slice_get own (sim_of e) ≡ Some old
    → IsIndexOf (J ++ e ∷ []) (record { own = slice_set own (sim_of e) (old ++ count ∷ []); count = count + 1 })
noted J e own count old are there = record {
  count = counted J e count are.count;
  own = λ i places at. elim (cases_eq i (sim_of e)) [
    | inl same ↦ some_same (sym at ∙ ap (slice_get (slice_set own (sim_of e) (old ++ count ∷ []))) same ∙ set_here own (sim_of e) (old ++ count ∷ []) old there)
        ∙ ap (λ (n : ℕ). old ++ n ∷ []) are.count ∙ ap (λ (l : List ℕ). l ++ length J ∷ []) (are.own i old (ap (slice_get own) same ∙ there)) ∙ sym (own_push i J e same)
    | inr apart ↦ are.own i places (sym (set_else own (sim_of e) i (old ++ count ∷ []) apart) ∙ at) ∙ sym (other_push i J e apart)
  ];
}

-- an entry of no simulator that there is
pub passed_by : (J : List Entry) (e : Entry) (own : List (List ℕ)) (count : ℕ) → IsIndexOf J (record { own = own; count = count }) → length own ≤ sim_of e → IsIndexOf (J ++ e ∷ []) (record { own = own; count = count + 1 })
passed_by J e own count are past = record {
  count = counted J e count are.count;
  own = λ i places at. are.own i places at ∙ sym (other_push i J e (λ same. let low = (get_is own i places at).0 in omega (arith, past, low, same)));
}

-- as far as the index has come it is one of a beginning
pub part_of : (J K : List Entry) (index : Indexed) (n : ℕ) → BeginsWith K J → length J ≤ n → IsIndexOf (take n K) index → IsIndexOfPart J K index
part_of J K index n (more, is) far are = record {
  part = take n K;
  begins = (drop n K, sym (take-append-drop n K));
  goes_on = (take (n - length J) more, ap (take n) is ∙ ap (λ (k : ℕ). take k (J ++ more)) (omega (arith, far)) ∙ take-append-add J more (n - length J));
  is = are;
}

-- ---- lists of anything that is seen as places

module _ {V : Type 0} (f : V → List ℕ) where
  map_set : (vs : List V) (i : ℕ) (v : V) → map f (slice_set vs i v) ≡ slice_set (map f vs) i (f v)
  map_set [] i v = refl
  map_set (w ∷ vs) zero v = refl
  map_set (w ∷ vs) (suc i) v = ap (λ (l : List (List ℕ)). f w ∷ l) (map_set vs i v)

  -- a value that is seen as the one before stands in its place
  pub map_same : (vs : List V) (i : ℕ) (old new : V) → i < length vs → old ≡ get_or vs i old → f new ≡ f old → map f (slice_set vs i new) ≡ map f vs
  map_same [] i old new low is same = refl
  map_same (w ∷ vs) zero old new low is same = ap (λ (x : List ℕ). x ∷ map f vs) (same ∙ ap f is)
  map_same (w ∷ vs) (suc i) old new low is same = ap (λ (l : List (List ℕ)). f w ∷ l) (map_same vs i old new (omega (arith, low)) is same)

  pub map_get : (vs : List V) (i : ℕ) (v : V) → i < length vs → v ≡ get_or vs i v → slice_get (map f vs) i ≡ Some (f v)
  map_get [] i v low is = absurd (omega (arith, low))
  map_get (w ∷ vs) zero v low is = ap (λ x. Some (f x)) (sym is)
  map_get (w ∷ vs) (suc i) v low is = map_get vs i v (omega (arith, low)) is

  map_length : (vs : List V) → length (map f vs) ≡ length vs
  map_length [] = refl
  map_length (v ∷ vs) = ap suc (map_length vs)

  pub among : (vs : List V) (i : ℕ) → i < length (map f vs) → i < length vs
  among vs i low = let n = map_length vs in omega (arith, n, low)

  pub empty_more : (vs ws : List V) (v : V) → ((i : ℕ) (places : List ℕ) → slice_get (map f vs) i ≡ Some places → places ≡ []) → f v ≡ [] → ws ≡ vs ++ v ∷ []
      → (i : ℕ) (places : List ℕ) → slice_get (map f ws) i ≡ Some places → places ≡ []
  empty_more vs ws v empty none is i places at = last (map f vs) i (sym (ap (λ (l : List (List ℕ)). slice_get l i) (ap (map f) is ∙ map_append f vs (v ∷ []))) ∙ at) empty
    where
      last : (xs : List (List ℕ)) (i : ℕ) → slice_get (xs ++ f v ∷ []) i ≡ Some places → ((i : ℕ) (places : List ℕ) → slice_get xs i ≡ Some places → places ≡ []) → places ≡ []
      last [] zero at each = sym (some_same at) ∙ none
      last [] (suc i) at each = absurd (none_some at)
      last (x ∷ xs) zero at each = each 0 places at
      last (x ∷ xs) (suc i) at each = last xs i at (λ j p there. each (suc j) p there)

  pub seen_noted : (J : List Entry) (e : Entry) (vs : List V) (sim count : ℕ) (old new : V) → sim ≡ sim_of e → sim < length vs → old ≡ get_or vs sim old → f new ≡ f old ++ count ∷ []
      → IsIndexOf J (record { own = map f vs; count = count }) → IsIndexOf (J ++ e ∷ []) (record { own = map f (slice_set vs sim new); count = count + 1 })
  seen_noted J e vs sim count old new same low is grown are =
      subst (λ (own : List (List ℕ)). IsIndexOf (J ++ e ∷ []) (record { own = own; count = count + 1 }))
      (ap (λ (l : List ℕ). slice_set (map f vs) (sim_of e) l) (sym grown) ∙ ap (λ (n : ℕ). slice_set (map f vs) n (f new)) (sym same) ∙ sym (map_set vs sim new))
      (noted J e (map f vs) count (f old) are (ap (slice_get (map f vs)) (sym same) ∙ map_get vs sim old low is))

  pub seen_past : (J : List Entry) (e : Entry) (vs : List V) (sim count : ℕ) → sim ≡ sim_of e → length vs ≤ sim → IsIndexOf J (record { own = map f vs; count = count }) → IsIndexOf (J ++ e ∷ []) (record { own = map f vs; count = count + 1 })
  seen_past J e vs sim count same past are = passed_by J e (map f vs) count are (let n = map_length vs in omega (arith, n, same, past))

-- ---- an item that was looked up

past_end : (l : List ℕ) (k : ℕ) → length l ≤ k → slice_get l k ≡ None
past_end [] k past = refl
past_end (x ∷ l) zero past = absurd (let g : suc (length l) ≤ 0 = past in omega (arith, g))
past_end (x ∷ l) (suc k) past = past_end l k (let g : suc (length l) ≤ suc k = past in omega (arith, g))

item_is : (l : List ℕ) (k x : ℕ) → k < length l → x ≡ get_or l k x → slice_get l k ≡ Some x
item_is [] k x low is = absurd (let g : k < 0 = low in omega (arith, g))
item_is (y ∷ l) zero x low is = ap Some (sym is)
item_is (y ∷ l) (suc k) x low is = item_is l k x (let g : suc k < suc (length l) = low in omega (arith, g)) is

pub looked_up : (l : List ℕ) (k : ℕ) (Q : Bor ℕ → Type 0) (r : Option (Bor ℕ)) → MatchOption r (length l ≤ k) (λ x. (k < length l) × Q x) → IfSome r (λ x. x.now ≡ get_or l k x.now) → option_copied r ≡ slice_get l k
looked_up l k Q None past is = sym (past_end l k past)
looked_up l k Q (Some x) low is = sym (item_is l k x.now low.0 is)
