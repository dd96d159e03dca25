-- What each simulator was sent, one entry more at a time.
use Rattle.std.proofs.Common.{◌≡◌, ℕ, ◌+◌, ◌<◌, ◌≤◌, ◌==◌, Bool, true, false, List, [], ◌∷◌, ◌++◌, length, map, filter_map, Option, Some, None, slice_get, slice_set, get_or, if◌then◌else◌, length-append, refl, sym, ap, ◌∙◌, subst, inl, inr, arith}
use Rattle.std.proofs.lemmas.Bool.{cases_eq, eqb-true}
use Rattle.std.proofs.lemmas.List.{length-map}
use Rattle.mk_base.specs.declared.SimNo.{SimNo}
use Rattle.mk_base.proofs.Lists.{some_same, none_some, get_is, append_nil, map_append, filter_map_append, length_set, set_here, set_else}
use Rattle.mk_base.proofs.AtPlaces.{last_or_before, map_set, map_get}
use Rattle.mk_plan.specs.declared.Item.{Item}
use Rattle.mk_plan.specs.declared.Message.{Message}
use Rattle.mk_plan.specs.declared.Entry.{Entry}
use Rattle.mk_plan.specs.declared.Entry.TheVariants.{Sent, Got}
use Rattle.mk_plan.specs.Journals.{sent, sent_to}
use Rattle.mk_watch.specs.inner.Shares.{AreShares}
use Rattle.mk_plan.proofs.Sending.{sent_here}

none_sent : (i : ℕ) (s : SimNo) (item : Item) → (i ≡ s.0 → ⊥) → sent (Sent s item ∷ []) i ≡ []
none_sent i s item apart =
    ap (λ (b : Bool). filter_map (λ (o : Option Item). o) ((if b then Some item else None) ∷ [])) (elim (s.0 == i) as (λ b. (s.0 == i) ≡ b → b ≡ false) [ true ↦ λ h. absurd (apart (sym (eqb-true s.0 i h))) | false ↦ λ h. refl ] refl)

no_shares : AreShares 0 [] []
no_shares = record { all = refl; each = λ i s at. absurd (none_some at) }

-- one simulator more, without items
one_more : (n : ℕ) (shares : List (List Item)) → AreShares n [] shares → AreShares (n + 1) [] (shares ++ [] ∷ [])
one_more n shares are = record {
  all = length-append shares ([] ∷ []) ∙ ap (λ k. k + 1) are.all;
  each = λ i s at. elim (last_or_before shares [] i s at) [ inl e ↦ e | inr old ↦ are.each i s old ];
}

-- a message
pub got_no_more : (count : ℕ) (J : List Entry) (s : SimNo) (m : Message) (shares : List (List Item)) → AreShares count J shares → AreShares count (J ++ Got s m ∷ []) shares
got_no_more count J s m shares are = record {
  all = are.all;
  each = λ i t at. are.each i t at ∙ sym (filter_map_append (sent_to i) J (Got s m ∷ []) ∙ append_nil (sent J i));
}

-- an item to no simulator that there is
left_alone : (count : ℕ) (J : List Entry) (s : SimNo) (item : Item) (shares : List (List Item)) → length shares ≤ s.0 → AreShares count J shares → AreShares count (J ++ Sent s item ∷ []) shares
left_alone count J s item shares past are = record {
  all = are.all;
  each = λ i t at. are.each i t at ∙ sym (filter_map_append (sent_to i) J (Sent s item ∷ []) ∙ ap (λ l. sent J i ++ l) (none_sent i s item (λ same. let low = (get_is shares i t at).0 in omega (arith, past, low, same))) ∙ append_nil (sent J i));
}

put_in : (count : ℕ) (J : List Entry) (s : SimNo) (item : Item) (shares : List (List Item)) (t u : List Item) → slice_get shares s.0 ≡ Some t → u ≡ t ++ item ∷ [] → AreShares count J shares → AreShares count (J ++ Sent s item ∷ []) (slice_set shares s.0 u)
put_in count J s item shares t u there grown are = record {
  all = length_set shares s.0 u ∙ are.all;
  each = λ i r at. elim (cases_eq i s.0) [
    | inl same ↦
        let mine : r ≡ u = some_same (sym at ∙ ap (λ n. slice_get (slice_set shares s.0 u) n) same ∙ set_here shares s.0 u t there) in
        mine ∙ grown ∙ ap (λ l. l ++ item ∷ []) (are.each s.0 t there)
        ∙ sym (ap (λ n. sent (J ++ Sent s item ∷ []) n) same ∙ filter_map_append (sent_to s.0) J (Sent s item ∷ []) ∙ ap (λ l. sent J s.0 ++ l) (sent_here s item))
    | inr apart ↦
        are.each i r (sym (set_else shares s.0 i u apart) ∙ at)
        ∙ sym (filter_map_append (sent_to i) J (Sent s item ∷ []) ∙ ap (λ l. sent J i ++ l) (none_sent i s item apart) ∙ append_nil (sent J i))
  ];
}

-- ---- lists of anything that is seen as items

module _ {X : Type 0} (f : X → List Item) where
  pub none_yet : (items : List X) → items ≡ [] → AreShares 0 [] (map f items)
  none_yet items is = subst (λ (l : List X). AreShares 0 [] (map f l)) (sym is) no_shares

  pub one_empty : (n : ℕ) (items new : List X) (x : X) → new ≡ items ++ x ∷ [] → f x ≡ [] → AreShares n [] (map f items) → AreShares (n + 1) [] (map f new)
  one_empty n items new x is none are =
      subst (AreShares (n + 1) []) (sym (ap (map f) is ∙ map_append f items (x ∷ []) ∙ ap (λ (l : List Item). map f items ++ l ∷ []) none)) (one_more n (map f items) are)

  pub noted : (count : ℕ) (J : List Entry) (s : SimNo) (item : Item) (items : List X) (old new : X) → s.0 < length items → old ≡ get_or items s.0 old → f new ≡ f old ++ item ∷ []
      → AreShares count J (map f items) → AreShares count (J ++ Sent s item ∷ []) (map f (slice_set items s.0 new))
  noted count J s item items old new low is grown are =
      subst (AreShares count (J ++ Sent s item ∷ [])) (sym (map_set f items s.0 new))
      (put_in count J s item (map f items) (f old) (f new) (map_get f items s.0 old low is) grown are)

  pub passed_by : (count : ℕ) (J : List Entry) (s : SimNo) (item : Item) (items : List X) → length items ≤ s.0 → AreShares count J (map f items) → AreShares count (J ++ Sent s item ∷ []) (map f items)
  passed_by count J s item items past are = left_alone count J s item (map f items) (let len = length-map items f in omega (arith, len, past)) are

  -- the share at a place
  pub share_there : (count : ℕ) (J : List Entry) (items : List X) (i : ℕ) (x : X) → i < length items → x ≡ get_or items i x → AreShares count J (map f items) → f x ≡ sent J i
  share_there count J items i x low is are = are.each i (f x) (map_get f items i x low is)

  pub as_many : (count : ℕ) (J : List Entry) (items : List X) → AreShares count J (map f items) → length items ≡ count
  as_many count J items are = sym (length-map items f) ∙ are.all

  -- the same by other names
  pub shares_named : (n count : ℕ) (J K : List Entry) (items more : List X) → n ≡ count → J ≡ K → more ≡ items → AreShares n J (map f items) → AreShares count K (map f more)
  shares_named n count J K items more a b e are =
      subst (λ (l : List X). AreShares count K (map f l)) (sym e) (subst (λ (L : List Entry). AreShares count L (map f items)) b (subst (λ m. AreShares m J (map f items)) a are))
