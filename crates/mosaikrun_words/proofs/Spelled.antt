-- The words that are found are spelled so, and those that are spelled so are found.
use Rattle.std.proofs.Common.{◌≡◌, ℕ, ◌≤◌, ◌==◌, Bool, true, false, cond, ◌&&◌, nat_le, List, [], ◌∷◌, ◌++◌, length, Option, Some, None, option_map, MatchOption, Bor, refl, sym, ap, ◌∙◌, subst, arith, inl, inr}
use Rattle.std.proofs.lemmas.Bool.Decides.{nat_tests}
use Rattle.std.proofs.lemmas.Slice.Eq.{bytes_eq-Decides}
use Rattle.std.specs.List.{list_all}
use Rattle.mk_base.specs.Lists.{Each, IsIn, same_text}
use Rattle.mk_base.specs.Numbers.{number_of, is_digit}
use Rattle.mosaikrun_words.specs.declared.reading.Found.{Found}
use Rattle.mosaikrun_words.specs.declared.reading.Two.{Two}
use Rattle.mosaikrun_words.specs.inner.Arranged.{alone, behind, long, number_in, one_word, only_word, pair, start, two_words, value_after, word_with}
use Rattle.mosaikrun_words.specs.Numbers.{IsNumber, most_digits}
use Rattle.mosaikrun_words.specs.Requests.{if_given}
use Rattle.mosaikrun_words.specs.Words.{Given, Text, is_value, spellings}
use Rattle.mk_base.proofs.Bools.{both_hold}

same_self : (t : Text) → same_text t t ≡ true
same_self t = (bytes_eq-Decides t t).1 refl

-- what follows a beginning

pub after_is : (p w v : Text) → value_after p w ≡ Some v → w ≡ p ++ v
after_is [] w v e = let same : w ≡ v = cc in same
after_is (a ∷ more) [] v e = cc
after_is (a ∷ more) (b ∷ word) v e = elim (a == b) as (λ t. (a == b) ≡ t → cond t (value_after more word) None ≡ Some v → (b ∷ word) ≡ a ∷ (more ++ v)) [
  | true ↦ λ same h. let here : b ≡ a = grind (arith, nat_tests) in let rest : word ≡ more ++ v = after_is more word v h in cc
  | false ↦ λ apart h. cc
] refl e

pub after_of : (p v : Text) → value_after p (p ++ v) ≡ Some v
after_of [] v = refl
after_of (a ∷ more) v = let same : (a == a) ≡ true = grind (arith, nat_tests) in rw same (after_of more v)

-- what is stripped of a word
pub after_found : (p w : Text) (r : Option (Bor Text)) → MatchOption r ((v : Text) → w ≡ p ++ v → ⊥) (λ v. w ≡ p ++ v.now) → option_map (λ v. v.now) r ≡ value_after p w
after_found p w None none = by (value_after p w) refl
  where
    by : (o : Option Text) → value_after p w ≡ o → None ≡ o
    by None e = refl
    by (Some v) e = absurd (none v (after_is p w v e))
after_found p w (Some v) is = sym (ap (value_after p) is ∙ after_of p v.now)

-- the option and its value may stand so
abbrev pub AreValues : Text → Option Text → Type 0
AreValues name o = Each (λ (g : Given). is_value g.1 ≡ true) (if_given name o)

-- the words spell one positional word and what is given of the option
pub record IsFound (name : Text) (words : List Text) (f : Found) : Type 0 where
  pub spelled : IsIn words (spellings (f.word ∷ []) (if_given name f.value))
  pub word : is_value f.word ≡ true
  pub value : AreValues name f.value

abbrev with : Text → Text → Found
with w v = record { word = w; value = Some v }

-- a pair that is made is made of values
record IsPair (w : Text) (o : Option Text) (f : Found) : Type 0 where
  value : Text
  given : o ≡ Some value
  word_is : is_value w ≡ true
  value_is : is_value value ≡ true
  is : f ≡ with w value

pair_is : (w : Text) (o : Option Text) (f : Found) → pair w o ≡ Some f → IsPair w o f
pair_is w None f e = cc
pair_is w (Some v) f e = elim (is_value w && is_value v) as (λ b. (is_value w && is_value v) ≡ b → cond b (Some (with w v)) None ≡ Some f → IsPair w (Some v) f) [
  | true ↦ λ t h. let p = both_hold (is_value w) (is_value v) t in let same : with w v ≡ f = cc in record { value = v; given = refl; word_is = p.0; value_is = p.1; is = sym same }
  | false ↦ λ t h. cc
] refl e

module _ (name : Text) where
  abbrev words_of : Found → List (List Text)
  words_of f = spellings (f.word ∷ []) (if_given name f.value)

  -- an option as one word with its value
  joined_is : (w o : Text) (f : Found) (front : Bool) → pair w (value_after (start name) o) ≡ Some f → IsFound name (cond front (o ∷ w ∷ []) (w ∷ o ∷ [])) f
  joined_is w o f front e =
      let p = pair_is w (value_after (start name) o) f e in
      let there : o ≡ start name ++ p.value = after_is (start name) o p.value p.given in
      subst (IsFound name (cond front (o ∷ w ∷ []) (w ∷ o ∷ []))) (sym p.is) (record {
        spelled = elim front as (λ b. IsIn (cond b (o ∷ w ∷ []) (w ∷ o ∷ [])) (words_of (with w p.value))) [
          | true ↦ inr (inr (inl (ap (λ (x : Text). x ∷ w ∷ []) there)))
          | false ↦ inr (inr (inr (inl (ap (λ (x : Text). w ∷ x ∷ []) there))))
        ];
        word = p.word_is;
        value = (p.value_is, tt);
      })

  behind_is : (b c v : Text) → behind name b c ≡ Some v → (b ≡ long name) × (c ≡ v)
  behind_is b c v e = elim (same_text b (long name)) as (λ t. same_text b (long name) ≡ t → cond t (Some c) None ≡ Some v → (b ≡ long name) × (c ≡ v)) [
    | true ↦ λ t h. ((bytes_eq-Decides b (long name)).0 t, let same : c ≡ v = cc in same)
    | false ↦ λ t h. cc
  ] refl e

  -- an option as two words
  apart_is : (w b c : Text) (f : Found) (front : Bool) → pair w (behind name b c) ≡ Some f → IsFound name (cond front (b ∷ c ∷ w ∷ []) (w ∷ b ∷ c ∷ [])) f
  apart_is w b c f front e =
      let p = pair_is w (behind name b c) f e in
      let t = behind_is b c p.value p.given in
      let option : b ≡ long name = t.0 in
      let value_there : c ≡ p.value = t.1 in
      subst (IsFound name (cond front (b ∷ c ∷ w ∷ []) (w ∷ b ∷ c ∷ []))) (sym p.is) (record {
        spelled = elim front as (λ z. IsIn (cond z (b ∷ c ∷ w ∷ []) (w ∷ b ∷ c ∷ [])) (words_of (with w p.value))) [
          | true ↦ inl (let e : ◌≡◌ {A = List Text} (b ∷ c ∷ w ∷ []) (long name ∷ p.value ∷ w ∷ []) = cc in e)
          | false ↦ inr (inl (let e : ◌≡◌ {A = List Text} (w ∷ b ∷ c ∷ []) (w ∷ long name ∷ p.value ∷ []) = cc in e))
        ];
        word = p.word_is;
        value = (p.value_is, tt);
      })

  alone_is : (a : Text) (f : Found) → alone a ≡ Some f → IsFound name (a ∷ []) f
  alone_is a f e = elim (is_value a) as (λ b. is_value a ≡ b → cond b (Some (let g : Found = record { word = a; value = None } in g)) None ≡ Some f → IsFound name (a ∷ []) f) [
    | true ↦ λ t h.
        let plain : Found = record { word = a; value = None } in
        let same : plain ≡ f = cc in
        subst (IsFound name (a ∷ [])) same (record { spelled = inl refl; word = t; value = tt })
    | false ↦ λ t h. cc
  ] refl e

  -- what is found is spelled by the words
  pub found_is : (words : List Text) (f : Found) → one_word name words ≡ Some f → IsFound name words f
  found_is [] f e = cc
  found_is (a ∷ []) f e = alone_is a f e
  found_is (a ∷ b ∷ []) f e = elim (is_value a) as (λ t. cond t (pair a (value_after (start name) b)) (pair b (value_after (start name) a)) ≡ Some f → IsFound name (a ∷ b ∷ []) f) [
    | true ↦ λ h. joined_is a b f false h
    | false ↦ λ h. joined_is b a f true h
  ] e
  found_is (a ∷ b ∷ c ∷ []) f e = elim (is_value a) as (λ t. cond t (pair a (behind name b c)) (pair c (behind name a b)) ≡ Some f → IsFound name (a ∷ b ∷ c ∷ []) f) [
    | true ↦ λ h. apart_is a b c f false h
    | false ↦ λ h. apart_is c a b f true h
  ] e
  found_is (a ∷ b ∷ c ∷ d ∷ more) f e = cc

  -- words that spell it are found
  pub found_of : (words : List Text) (f : Found) → IsFound name words f → one_word name words ≡ Some f
  found_of words f there = by f.word f.value there.word there.value there.spelled
    where
      by : (w : Text) (o : Option Text) → is_value w ≡ true → AreValues name o → IsIn words (spellings (w ∷ []) (if_given name o)) → one_word name words ≡ Some (record { word = w; value = o })
      by w None h g (inl e) = ap (one_word name) e ∙ rw h refl
      by w None h g (inr never) = absurd never
      by w (Some v) h g (inl e) = let k : is_value v ≡ true = g.0 in ap (one_word name) e ∙ rw (same_self (long name), h, k) refl
      by w (Some v) h g (inr (inl e)) = let k : is_value v ≡ true = g.0 in ap (one_word name) e ∙ simp (same_self (long name), h, k) refl
      by w (Some v) h g (inr (inr (inl e))) = let k : is_value v ≡ true = g.0 in ap (one_word name) e ∙ ap (pair w) (after_of (start name) v) ∙ simp (h, k) refl
      by w (Some v) h g (inr (inr (inr (inl e)))) = let k : is_value v ≡ true = g.0 in ap (one_word name) e ∙ rw h (ap (pair w) (after_of (start name) v) ∙ simp (h, k) refl)
      by w (Some v) h g (inr (inr (inr (inr never)))) = absurd never

-- a word and what may be given of an option
pub record IsWordWith (name w : Text) (o : Option Text) (f : Found) : Type 0 where
  pub is : f ≡ record { word = w; value = o }
  pub word : is_value w ≡ true
  pub value : AreValues name o

pub word_with_is : (name w : Text) (o : Option Text) (f : Found) → word_with w o ≡ Some f → IsWordWith name w o f
word_with_is name w (Some v) f e =
    let p = pair_is w (Some v) f e in
    let same : v ≡ p.value = let given = p.given in cc in
    record { is = subst (λ (x : Text). f ≡ with w x) (sym same) p.is; word = p.word_is; value = (subst (λ (x : Text). is_value x ≡ true) (sym same) p.value_is, tt) }
word_with_is name w None f e = elim (is_value w) as (λ b. is_value w ≡ b → cond b (Some (let g : Found = record { word = w; value = None } in g)) None ≡ Some f → IsWordWith name w None f) [
  | true ↦ λ t h.
      let plain : Found = record { word = w; value = None } in
      let same : plain ≡ f = cc in
      record { is = sym same; word = t; value = tt }
  | false ↦ λ t h. cc
] refl e

pub word_with_from : (name w : Text) (o : Option Text) → is_value w ≡ true → AreValues name o → word_with w o ≡ Some (record { word = w; value = o })
word_with_from name w None h g = rw h refl
word_with_from name w (Some v) h g = let k : is_value v ≡ true = g.0 in simp (h, k) refl

-- one word alone

pub only_is : (words : List Text) (t : Text) → only_word words ≡ Some t → (words ≡ t ∷ []) × (is_value t ≡ true)
only_is [] t e = cc
only_is (a ∷ []) t e = elim (is_value a) as (λ b. is_value a ≡ b → cond b (Some a) None ≡ Some t → (a ∷ [] ≡ t ∷ []) × (is_value t ≡ true)) [
  | true ↦ λ h k. let same : a ≡ t = cc in (ap (λ (x : Text). x ∷ []) same, sym (ap is_value same) ∙ h)
  | false ↦ λ h k. cc
] refl e
only_is (a ∷ b ∷ more) t e = cc

pub only_of : (t : Text) → is_value t ≡ true → only_word (t ∷ []) ≡ Some t
only_of t h = rw h refl

-- two words

pub two_is : (words : List Text) (t : Two) → two_words words ≡ Some t → (words ≡ t.first ∷ t.second ∷ []) × (is_value t.first ≡ true) × (is_value t.second ≡ true)
two_is [] t e = cc
two_is (a ∷ []) t e = cc
two_is (a ∷ b ∷ []) t e = elim (is_value a && is_value b) as (λ z. (is_value a && is_value b) ≡ z → cond z (Some (let x : Two = record { first = a; second = b } in x)) None ≡ Some t → (a ∷ b ∷ [] ≡ t.first ∷ t.second ∷ []) × (is_value t.first ≡ true) × (is_value t.second ≡ true)) [
  | true ↦ λ h k.
      let p = both_hold (is_value a) (is_value b) h in
      let made : Two = record { first = a; second = b } in
      let same : made ≡ t = cc in
      (ap (λ (x : Two). x.first ∷ x.second ∷ []) same, sym (ap (λ (x : Two). is_value x.first) same) ∙ p.0, sym (ap (λ (x : Two). is_value x.second) same) ∙ p.1)
  | false ↦ λ h k. cc
] refl e
two_is (a ∷ b ∷ c ∷ more) t e = cc

pub two_of : (a b : Text) → is_value a ≡ true → is_value b ≡ true → two_words (a ∷ b ∷ []) ≡ Some (record { first = a; second = b })
two_of a b h k = simp (h, k) refl

-- numbers

module _ (least most : ℕ) (text : Text) where
  abbrev test : Bool
  test = nat_le 1 (length text) && nat_le (length text) most_digits && list_all is_digit text && nat_le least (number_of text) && nat_le (number_of text) most

  pub number_is : (n : ℕ) → number_in least most text ≡ Some n → IsNumber least most n text
  number_is n e = elim test as (λ b. test ≡ b → cond b (Some (number_of text)) None ≡ Some n → IsNumber least most n text) [
    | true ↦ λ h k.
        let p = both_hold _ (nat_le (number_of text) most) h in
        let q = both_hold _ (nat_le least (number_of text)) p.0 in
        let r = both_hold _ (list_all is_digit text) q.0 in
        let s = both_hold (nat_le 1 (length text)) (nat_le (length text) most_digits) r.0 in
        let some_there : nat_le 1 (length text) ≡ true = s.0 in
        let few_there : nat_le (length text) 10 ≡ true = s.1 in
        let low_there : nat_le least (number_of text) ≡ true = q.1 in
        let high_there : nat_le (number_of text) most ≡ true = p.1 in
        let same : number_of text ≡ n = cc in
        let low_is : least ≤ number_of text = grind (arith, nat_tests) in
        let high_is : number_of text ≤ most = grind (arith, nat_tests) in
        record { some = grind (arith, nat_tests); few = grind (arith, nat_tests); digits = r.1; value = same; low = omega (arith, same); high = omega (arith, same) }
    | false ↦ λ h k. cc
  ] refl e

  pub number_from : (n : ℕ) → IsNumber least most n text → number_in least most text ≡ Some n
  number_from n is =
      let some_there : nat_le 1 (length text) ≡ true = let h = is.some in grind (arith, nat_tests) in
      let few_there : nat_le (length text) 10 ≡ true = let h = is.few in grind (arith, nat_tests) in
      let low_is : least ≤ number_of text = omega (arith, is.low, is.value) in
      let high_is : number_of text ≤ most = omega (arith, is.high, is.value) in
      let low_there : nat_le least (number_of text) ≡ true = grind (arith, nat_tests) in
      let high_there : nat_le (number_of text) most ≡ true = grind (arith, nat_tests) in
      let digits_there : list_all is_digit text ≡ true = is.digits in
      simp (some_there, few_there, digits_there, low_there, high_there) (ap Some is.value)
