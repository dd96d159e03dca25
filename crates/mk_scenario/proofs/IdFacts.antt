-- The ids of a scenario's simulators are distinct, and none has a dot.
use Rattle.std.proofs.Common.{◌≡◌, ◌≢◌, ℕ, zero, suc, ◌+◌, ◌^◌, ◌%◌, ◌<◌, ◌≤◌, arith, Bool, true, false, ◌&&◌, ◌||◌, cond, List, [], ◌∷◌, ◌++◌, filter, length, take, get_or, Option, Some, None, option_map, slice_get, IsTrue, All, AllPairs, refl, sym, ap, ◌∙◌, subst, nat_le}
use Rattle.std.specs.Fmt.{decimal}
use Rattle.std.specs.List.{list_all}
use Rattle.std.proofs.lemmas.Bool.{and_parts}
use Rattle.std.proofs.lemmas.Fmt.{decimal_injective, decimal_by_steps}
use Rattle.std.proofs.lemmas.List.{length-map}
use Rattle.mk_base.specs.Lists.{Each, same_text}
use Rattle.mk_base.proofs.Lists.{some_same, at_in, in_each}
use Rattle.mk_base.specs.Numbers.{is_digit}
use Rattle.mk_scenario_keys.specs.Spelling.{begins_name, starts_well, longest_name, is_name}
use Rattle.mk_scenario.specs.Sims.{sim_id}
use Rattle.mk_scenario.specs.Scenarios.{ids_of}
use Rattle.mk_scenario.specs.Wellformed.{AreIdsOf, IsWellformed}
use Rattle.mk_scenario.specs.declared.parts.SimPart.{SimPart}
use Rattle.mk_scenario.specs.declared.parts.Scenario.{Scenario}
use Rattle.mk_base.proofs.Items.{get_default, get_map, same_text_self, each_then}

name_byte : (b : ℕ) → (begins_name b || is_digit b) ≡ true → 47 < b
name_byte b e = grind (arith, e)

each_of : (test : ℕ → Bool) (xs : List ℕ) → list_all test xs ≡ true → Each (λ b. test b ≡ true) xs
each_of test [] e = tt
each_of test (x ∷ xs) e = let t = and_parts (test x) (list_all test xs) e in (t.0, each_of test xs t.1)

name_bytes : (n : List ℕ) → is_name n ≡ true → Each (λ b. 47 < b) n
name_bytes n e =
    let t = and_parts (starts_well n && list_all (λ b. begins_name b || is_digit b) n) (nat_le (length n) longest_name) e in
    let s = and_parts (starts_well n) (list_all (λ b. begins_name b || is_digit b) n) t.0 in
    each_then (λ b. (begins_name b || is_digit b) ≡ true) (λ b. 47 < b) n name_byte (each_of (λ b. begins_name b || is_digit b) n s.1)

each_append : (P : ℕ → Type 0) (xs ys : List ℕ) → Each P xs → Each P ys → Each P (xs ++ ys)
each_append P [] ys p q = q
each_append P (x ∷ xs) ys p q = (p.0, each_append P xs ys p.1 q)

number_bytes : (n : ℕ) → n < 2 ^ 64 → Each (λ b. 47 < b) (decimal n)
number_bytes n h = decimal_by_steps (λ n ds. Each (λ b. 47 < b) ds) (λ n small. (omega arith, tt)) (λ n ds large so_far. each_append (λ b. 47 < b) ds ((48 + n % 10) ∷ []) so_far (omega arith, tt)) n h

-- what stands before the first `-`, and after it
parts_same : (xs ys us vs : List ℕ) → Each (λ b. 47 < b) xs → Each (λ b. 47 < b) ys → xs ++ (45 ∷ us) ≡ ys ++ (45 ∷ vs) → (xs ≡ ys) × (us ≡ vs)
parts_same [] [] us vs p q e = (refl, cc)
parts_same [] (y ∷ ys) us vs p q e = let first : 45 ≡ y = cc in let high = q.0 in absurd (omega arith)
parts_same (x ∷ xs) [] us vs p q e = let first : x ≡ 45 = cc in let high = p.0 in absurd (omega arith)
parts_same (x ∷ xs) (y ∷ ys) us vs p q e =
    let first : x ≡ y = cc in
    let more : xs ++ (45 ∷ us) ≡ ys ++ (45 ∷ vs) = cc in
    let t = parts_same xs ys us vs p.1 q.1 more in
    (λ i. first i ∷ t.0 i, t.1)

module _ {X : Type 0} (test : X → Bool) where
  few : (i : ℕ) (xs : List X) → length (filter test (take i xs)) ≤ length xs
  few zero xs = omega arith
  few (suc i) [] = omega arith
  few (suc i) (x ∷ xs) = let more = few i xs in elim (test x) as (λ b. length (cond b (x ∷ filter test (take i xs)) (filter test (take i xs))) ≤ suc (length xs)) [ true ↦ omega arith | false ↦ omega arith ]

  -- one more of them after place i
  rises : (xs : List X) (i j : ℕ) (x : X) → i < j → slice_get xs i ≡ Some x → test x ≡ true → length (filter test (take i xs)) < length (filter test (take j xs))
  rises xs i zero x h at is = absurd (omega arith)
  rises [] i (suc j) x h at is = cc
  rises (y ∷ xs) zero (suc j) x h at is = let here : test y ≡ true = ap test (some_same at) ∙ is in rw here (omega arith)
  rises (y ∷ xs) (suc i) (suc j) x h at is = let more = rises xs i j x (omega arith) at is in
      elim (test y) as (λ b. length (cond b (y ∷ filter test (take i xs)) (filter test (take i xs))) < length (cond b (y ∷ filter test (take j xs)) (filter test (take j xs)))) [ true ↦ omega arith | false ↦ omega arith ]

-- how many of these names are this one
abbrev others : List (List ℕ) → List ℕ → ℕ
others names n = length (filter (λ m. same_text m n) names)

id_is : (names : List (List ℕ)) (n : List ℕ) → sim_id names n ≡ n ++ (45 ∷ decimal (others names n))
id_is names n = refl

module _ (names ids : List (List ℕ)) (named : AreIdsOf names ids) (short : length ids ≤ 200) where
  name_at : (i : ℕ) (id : List ℕ) → slice_get ids i ≡ Some id → (n : List ℕ) × (slice_get names i ≡ Some n) × (id ≡ sim_id (take i names) n)
  name_at i id at = from (slice_get names i) refl
    where
      from : (o : Option (List ℕ)) → slice_get names i ≡ o → (n : List ℕ) × (o ≡ Some n) × (id ≡ sim_id (take i names) n)
      from None is = let odd : None ≡ Some id = ap (option_map (sim_id (take i names))) (sym is) ∙ sym (named.each i) ∙ at in cc
      from (Some n) is = (n, refl, some_same (sym at ∙ named.each i ∙ ap (option_map (sim_id (take i names))) is))

  bytes_at : (i : ℕ) (n : List ℕ) → slice_get names i ≡ Some n → Each (λ b. 47 < b) n
  bytes_at i n at = name_bytes n (in_each (λ n. IsTrue (is_name n)) n names named.spelled (at_in n names i at))

  below_most : (i : ℕ) (n : List ℕ) → others (take i names) n < 2 ^ 64
  below_most i n = let many = few (λ m. same_text m n) i names in let count = named.count in omega arith

  pub ids_differ : (i j : ℕ) (a b : List ℕ) → i < j → slice_get ids i ≡ Some a → slice_get ids j ≡ Some b → a ≢ b
  ids_differ i j a b before first second same =
      let n = name_at i a first in
      let m = name_at j b second in
      let texts = sym (id_is (take i names) n.0) ∙ sym n.2 ∙ same ∙ m.2 ∙ id_is (take j names) m.0 in
      let parts = parts_same n.0 m.0 (decimal (others (take i names) n.0)) (decimal (others (take j names) m.0)) (bytes_at i n.0 n.1) (bytes_at j m.0 m.1) texts in
      let counts : others (take i names) n.0 ≡ others (take j names) m.0 = decimal_injective _ _ (below_most i n.0) (below_most j m.0) parts.1 in
      let counts_too : others (take j names) n.0 ≡ others (take j names) m.0 = ap (others (take j names)) parts.0 in
      let more : others (take i names) n.0 < others (take j names) n.0 = rises (λ u. same_text u n.0) names i j n.0 before n.1 (same_text_self n.0) in
      absurd (omega arith)

  not_dot : (b : ℕ) → 47 < b → b ≢ 46
  not_dot b h e = absurd (omega arith)

  pub no_dots : (i : ℕ) (id : List ℕ) → slice_get ids i ≡ Some id → Each (λ (b : ℕ). b ≢ 46) id
  no_dots i id at =
      let n = name_at i id at in
      subst (Each (λ (b : ℕ). b ≢ 46)) (sym (n.2 ∙ id_is (take i names) n.0)) (each_append (λ b. b ≢ 46) n.0 (45 ∷ decimal (others (take i names) n.0)) (each_then (λ b. 47 < b) (λ b. b ≢ 46) n.0 not_dot (bytes_at i n.0 n.1))
      ((λ e. absurd (omega arith)), each_then (λ b. 47 < b) (λ b. b ≢ 46) (decimal (others (take i names) n.0)) not_dot (number_bytes (others (take i names) n.0) (below_most i n.0))))

-- of a scenario's simulators
module _ (S : Scenario) (well : IsWellformed S) where
  count : length (ids_of S.sims) ≤ 200
  count = subst (λ n. n ≤ 200) (sym (length-map S.sims (λ (s : SimPart). s.id))) well.sim_count.1

  id_at : (i : ℕ) (d : SimPart) → i < length S.sims → slice_get (ids_of S.sims) i ≡ Some (get_or S.sims i d).id
  id_at i d inside = get_map (λ (s : SimPart). s.id) S.sims i ∙ ap (option_map (λ (s : SimPart). s.id)) (get_default S.sims i d inside)

  pub sims_differ : AllPairs (λ (s t : SimPart). s.id ≢ t.id) S.sims
  sims_differ i j d before inside = ids_differ well.ids.0 (ids_of S.sims) well.ids.1 count i j _ _ before (id_at i d (omega arith)) (id_at j d inside)

  pub sims_without_dots : All (λ (s : SimPart). Each (λ (b : ℕ). b ≢ 46) s.id) S.sims
  sims_without_dots i d inside = no_dots well.ids.0 (ids_of S.sims) well.ids.1 count i _ (id_at i d inside)
