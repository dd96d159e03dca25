-- Messages that came in some order, and behind them the rest.
use Rattle.std.proofs.Common.{◌≡◌, ℕ, zero, suc, ◌+◌, ◌<◌, ◌≤◌, ◌==◌, true, false, cond, List, [], ◌∷◌, ◌++◌, length, map, filter, flat_map, drop, refl, sym, ap, ◌∙◌, inl, inr, arith}
use Rattle.std.specs.List.{range_with_len}
use Rattle.std.proofs.lemmas.Bool.{cases_eq, eqb-true, eq-eqb}
use Rattle.mk_base.proofs.Lists.{append_nil}
use Rattle.mk_plan.specs.declared.Message.{Message}
use Rattle.mk_plan.specs.Journals.{Arrival}
use Rattle.mk_record_replay.specs.Replays.{messages_from}
use Rattle.mk_record_replay.proofs.Waiting.{messages_append}
use Rattle.mk_plan.proofs.Sending.{arrival_of}

own : (i j : ℕ) (ms : List Message) → j ≡ i → messages_from (map (arrival_of i) ms) j ≡ ms
own i j [] e = refl
own i j (m ∷ ms) e = let here : (i == j) ≡ true = eq-eqb i j (sym e) in rw here (ap (λ (l : List Message). m ∷ l) (own i j ms e))

others : (i j : ℕ) (ms : List Message) → (j ≡ i → ⊥) → messages_from (map (arrival_of i) ms) j ≡ []
others i j [] n = refl
others i j (m ∷ ms) n = elim (i == j) as (λ b. (i == j) ≡ b → map (λ (x : Arrival). x.message) (cond b (arrival_of i m ∷ filter (λ (x : Arrival). x.sim == j) (map (arrival_of i) ms)) (filter (λ (x : Arrival). x.sim == j) (map (arrival_of i) ms))) ≡ []) [
  | true ↦ λ e. absurd (n (sym (eqb-true i j e)))
  | false ↦ λ e. others i j ms n
] refl

module _ (L : ℕ → List Message) where
  abbrev all_from : ℕ → ℕ → List Arrival
  all_from a n = flat_map (λ i. map (arrival_of i) (L i)) (range_with_len a n)

  below : (a n j : ℕ) → j < a → messages_from (all_from a n) j ≡ []
  below a zero j low = refl
  below a (suc n) j low = messages_append (map (arrival_of a) (L a)) (all_from (a + 1) n) j ∙ ap (λ (l : List Message). l ++ messages_from (all_from (a + 1) n) j) (others a j (L a) (λ e. absurd (omega (arith, low, e)))) ∙ below (a + 1) n j (omega (arith, low))

  within : (a n j : ℕ) → a ≤ j → j < a + n → messages_from (all_from a n) j ≡ L j
  within a zero j low high = absurd (omega (arith, low, high))
  within a (suc n) j low high = messages_append (map (arrival_of a) (L a)) (all_from (a + 1) n) j ∙ elim (cases_eq j a) [
    | inl e ↦ ap (λ (l : List Message). l ++ messages_from (all_from (a + 1) n) j) (own a j (L a) e) ∙ ap (λ (l : List Message). L a ++ l) (below (a + 1) n j (omega (arith, e))) ∙ append_nil (L a) ∙ ap L (sym e)
    | inr apart ↦ ap (λ (l : List Message). l ++ messages_from (all_from (a + 1) n) j) (others a j (L a) apart) ∙ within (a + 1) n j (omega (arith, low, apart)) (omega (arith, high))
  ]

  past : (a n j : ℕ) → a + n ≤ j → messages_from (all_from a n) j ≡ []
  past a zero j high = refl
  past a (suc n) j high = messages_append (map (arrival_of a) (L a)) (all_from (a + 1) n) j ∙ ap (λ (l : List Message). l ++ messages_from (all_from (a + 1) n) j) (others a j (L a) (λ e. absurd (omega (arith, high, e)))) ∙ past (a + 1) n j (omega (arith, high))

dropped : {X : Type 0} (c more : List X) → drop (length c) (c ++ more) ≡ more
dropped [] more = refl
dropped (x ∷ c) more = dropped c more

module _ (n : ℕ) (A C : List Arrival) where
  -- the messages of A that aren't in C
  pub rest : List Arrival
  rest = flat_map (λ i. map (arrival_of i) (drop (length (messages_from C i)) (messages_from A i))) (range_with_len 0 n)

  pub whole : ((i : ℕ) → i < n → (more : List Message) × (messages_from A i ≡ messages_from C i ++ more)) → (i : ℕ) → i < n → messages_from (C ++ rest) i ≡ messages_from A i
  unfolding rest
  whole parts i low =
      let t = parts i low in
      let L : ℕ → List Message = λ k. drop (length (messages_from C k)) (messages_from A k) in
      let left : L i ≡ t.0 = ap (drop (length (messages_from C i))) t.1 ∙ dropped (messages_from C i) t.0 in
      messages_append C (flat_map (λ k. map (arrival_of k) (L k)) (range_with_len 0 n)) i ∙ ap (λ (l : List Message). messages_from C i ++ l) (within L 0 n i (omega arith) (omega (arith, low)) ∙ left) ∙ sym t.1

  pub whole_beyond : (i : ℕ) → n ≤ i → messages_from (C ++ rest) i ≡ messages_from C i
  unfolding rest
  whole_beyond i far =
      let L : ℕ → List Message = λ k. drop (length (messages_from C k)) (messages_from A k) in
      messages_append C (flat_map (λ k. map (arrival_of k) (L k)) (range_with_len 0 n)) i ∙ ap (λ (l : List Message). messages_from C i ++ l) (past L 0 n i (omega (arith, far))) ∙ append_nil (messages_from C i)
