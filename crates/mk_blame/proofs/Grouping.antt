-- The entries of each simulator, one entry more at a time.
use Rattle.std.proofs.Common.{◌≡◌, ℕ, ◌+◌, ◌<◌, ◌≤◌, ◌==◌, Bool, true, false, cond, List, [], ◌∷◌, ◌++◌, length, map, filter, Some, slice_get, slice_set, get_or, length-append, refl, sym, ap, ◌∙◌, subst, inl, inr, arith}
use Rattle.std.proofs.lemmas.Bool.{cases_eq, eqb-true, eq-eqb}
use Rattle.mk_base.proofs.Lists.{some_same, none_some, get_is, append_nil, map_append, filter_append, length_set, set_here, set_else}
use Rattle.mk_base.proofs.AtPlaces.{last_or_before, map_set, map_get}
use Rattle.mk_plan.specs.declared.Entry.{Entry}
use Rattle.mk_plan.specs.declared.Entry.TheVariants.{Sent, Got}
use Rattle.mk_blame.specs.Talks.{is_with, said, talk}
use Rattle.mk_plan.specs.Acts.{Said}
use Rattle.mk_plan.specs.Journals.{sim_of}
use Rattle.mk_blame.specs.inner.Parted.{AreTalks}
use Rattle.mk_base.proofs.Items.{length_map}

with_is : (i : ℕ) (e : Entry) → is_with i e ≡ (sim_of e == i)
with_is i (Sent s item) = refl
with_is i (Got s m) = refl

one_with : (e : Entry) → filter (is_with (sim_of e)) (e ∷ []) ≡ e ∷ []
one_with e = ap (λ (b : Bool). cond b (e ∷ []) []) (with_is (sim_of e) e ∙ eq-eqb (sim_of e) (sim_of e) refl)

none_with : (i : ℕ) (e : Entry) → (i ≡ sim_of e → ⊥) → filter (is_with i) (e ∷ []) ≡ []
none_with i e apart = ap (λ (b : Bool). cond b (e ∷ []) []) (with_is i e ∙ elim (sim_of e == i) as (λ b. (sim_of e == i) ≡ b → b ≡ false) [ true ↦ λ h. absurd (apart (sym (eqb-true (sim_of e) i h))) | false ↦ λ h. refl ] refl)

pub no_talks : AreTalks 0 [] []
no_talks = record { all = refl; each = λ i t at. absurd (none_some at) }

length_push : {X : Type 0} (xs : List X) (x : X) → length (xs ++ x ∷ []) ≡ length xs + 1
length_push xs x = length-append xs (x ∷ [])

-- one simulator more, without entries
pub one_more : (n : ℕ) (talks : List (List Entry)) → AreTalks n [] talks → AreTalks (n + 1) [] (talks ++ [] ∷ [])
one_more n talks are = record {
  all = length_push talks [] ∙ ap (λ k. k + 1) are.all;
  each = λ i t at. elim (last_or_before talks [] i t at) [ inl e ↦ e | inr old ↦ are.each i t old ];
}

-- an entry of no simulator that there is
pub left_alone : (count : ℕ) (J : List Entry) (e : Entry) (talks : List (List Entry)) → length talks ≤ sim_of e → AreTalks count J talks → AreTalks count (J ++ e ∷ []) talks
left_alone count J e talks past are = record {
  all = are.all;
  each = λ i t at. are.each i t at ∙ sym (filter_append (is_with i) J (e ∷ []) ∙ ap (λ l. filter (is_with i) J ++ l) (none_with i e (λ same. let low = (get_is talks i t at).0 in omega (arith, past, low, same))) ∙ append_nil (filter (is_with i) J));
}

pub put_in : (count : ℕ) (J : List Entry) (e : Entry) (talks : List (List Entry)) (t u : List Entry) → slice_get talks (sim_of e) ≡ Some t → u ≡ t ++ e ∷ [] → AreTalks count J talks → AreTalks count (J ++ e ∷ []) (slice_set talks (sim_of e) u)
put_in count J e talks t u there grown are = record {
  all = length_set talks (sim_of e) u ∙ are.all;
  each = λ i r at. elim (cases_eq i (sim_of e)) [
    | inl same ↦
        let mine : r ≡ u = some_same (sym at ∙ ap (λ n. slice_get (slice_set talks (sim_of e) u) n) same ∙ set_here talks (sim_of e) u t there) in
        mine ∙ grown ∙ ap (λ l. l ++ e ∷ []) (are.each (sim_of e) t there)
        ∙ sym (ap (λ n. filter (is_with n) (J ++ e ∷ [])) same ∙ filter_append (is_with (sim_of e)) J (e ∷ []) ∙ ap (λ l. filter (is_with (sim_of e)) J ++ l) (one_with e))
    | inr apart ↦
        are.each i r (sym (set_else talks (sim_of e) i u apart) ∙ at)
        ∙ sym (filter_append (is_with i) J (e ∷ []) ∙ ap (λ l. filter (is_with i) J ++ l) (none_with i e apart) ∙ append_nil (filter (is_with i) J))
  ];
}

-- ---- lists of anything that is seen as entries

module _ {X : Type 0} (f : X → List Entry) where
  pub none_yet : (items : List X) → items ≡ [] → AreTalks 0 [] (map f items)
  none_yet items is = subst (λ (l : List X). AreTalks 0 [] (map f l)) (sym is) no_talks

  pub one_empty : (n : ℕ) (items new : List X) (x : X) → new ≡ items ++ x ∷ [] → f x ≡ [] → AreTalks n [] (map f items) → AreTalks (n + 1) [] (map f new)
  one_empty n items new x is none are =
      subst (AreTalks (n + 1) []) (sym (ap (map f) is ∙ map_append f items (x ∷ []) ∙ ap (λ (l : List Entry). map f items ++ l ∷ []) none)) (one_more n (map f items) are)

  pub noted : (count : ℕ) (J : List Entry) (e : Entry) (items : List X) (i : ℕ) (old new : X) → i ≡ sim_of e → i < length items → old ≡ get_or items i old → f new ≡ f old ++ e ∷ []
      → AreTalks count J (map f items) → AreTalks count (J ++ e ∷ []) (map f (slice_set items i new))
  noted count J e items i old new at low is grown are =
      subst (AreTalks count (J ++ e ∷ [])) (sym (map_set f items i new ∙ ap (λ n. slice_set (map f items) n (f new)) at))
      (put_in count J e (map f items) (f old) (f new) (ap (slice_get (map f items)) (sym at) ∙ map_get f items i old low is) grown are)

  pub passed_by : (count : ℕ) (J : List Entry) (e : Entry) (items : List X) (i : ℕ) → i ≡ sim_of e → length items ≤ i → AreTalks count J (map f items) → AreTalks count (J ++ e ∷ []) (map f items)
  passed_by count J e items i at past are = left_alone count J e (map f items) (let len = length_map f items in omega (arith, len, at, past)) are

  -- the talk at a place
  pub talk_there : (count : ℕ) (J : List Entry) (items : List X) (i : ℕ) (x : X) → i < length items → x ≡ get_or items i x → AreTalks count J (map f items) → f x ≡ filter (is_with i) J
  talk_there count J items i x low is are = are.each i (f x) (map_get f items i x low is)

  pub as_many : (count : ℕ) (J : List Entry) (items : List X) → AreTalks count J (map f items) → length items ≡ count
  as_many count J items are = sym (length_map f items) ∙ are.all

said_each : {X : Type 0} (g : X → Entry) (xs : List X) → map (λ x. said (g x)) xs ≡ map said (map g xs)
said_each g [] = refl
said_each g (x ∷ xs) = ap (λ (l : List Said). said (g x) ∷ l) (said_each g xs)

-- what the entries at a place say is the talk of that simulator
pub talk_said : {X Y : Type 0} (g : Y → Entry) (h : X → List Y) (count : ℕ) (J : List Entry) (items : List X) (i : ℕ) (x : X) (l : List Y) → i < length items → x ≡ get_or items i x → l ≡ h x → AreTalks count J (map (λ t. map g (h t)) items) → map (λ y. said (g y)) l ≡ talk J i
talk_said g h count J items i x l low is same are = ap (map (λ y. said (g y))) same ∙ said_each g (h x) ∙ ap (map said) (talk_there (λ t. map g (h t)) count J items i x low is are)
