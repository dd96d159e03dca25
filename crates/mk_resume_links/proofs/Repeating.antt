-- What simulators within the program send again, one message more and with a longer journal.
use Rattle.std.proofs.Common.{◌≡◌, ℕ, zero, suc, ◌+◌, ◌<◌, ◌≤◌, Bool, true, List, [], ◌∷◌, ◌++◌, length, map, slice_get, Some, refl, sym, ap, ◌∙◌, subst, inl, inr, arith}
use Rattle.mk_base.proofs.Lists.{filter_map_append}
use Rattle.mk_plan.specs.declared.Item.{Item}
use Rattle.mk_plan.specs.declared.Message.{Message}
use Rattle.mk_plan.specs.declared.Entry.{Entry}
use Rattle.mk_plan.specs.Journals.{bare, got, got_from}
use Rattle.mk_run_laws.specs.Kinds.{Replies}
use Rattle.mk_resume_walk.specs.Talks.{free_items}
use Rattle.mk_resume_walk.proofs.UpTo.{free_front}
use Rattle.mk_resume_links.specs.Rests.{Counts}
use Rattle.mk_resume_links.specs.inner.Touching.{RepeatsByKind}
use Rattle.mk_base.proofs.Counts.{same_or_not}

get_front : (xs ys : List Message) (n : ℕ) → n < length xs → slice_get (xs ++ ys) n ≡ slice_get xs n
get_front [] ys n low = absurd (let g : n < 0 = low in omega (arith, g))
get_front (x ∷ xs) ys zero low = refl
get_front (x ∷ xs) ys (suc n) low = get_front xs ys n (let g : suc n < suc (length xs) = low in omega (arith, g))

-- ---- numbers, apart from what stands around them

none_below : (n : ℕ) → n < 0 → ⊥
none_below n low = omega (arith, low)

below_more : (n a b : ℕ) → n < a → a ≤ b → n < b
below_more n a b low few = omega (arith, low, few)

before_last : (n h k : ℕ) → n < k → k ≡ h + 1 → (n ≡ h → ⊥) → n < h
before_last n h k low one apart = omega (arith, low, one, apart)

module _ (reply : Replies) (within : ℕ → Bool) (J : List Entry) where
  pub kinds_none : RepeatsByKind reply within J (λ i. 0)
  kinds_none i n m inside low is = absurd (none_below n low)

  pub kinds_longer : (heard : Counts) (K : List Entry) → ((i : ℕ) → heard i ≤ length (got J i)) → RepeatsByKind reply within J heard → RepeatsByKind reply within (J ++ K) heard
  kinds_longer heard K few kinds i n m inside low is =
      let more : n < length (got J i) = below_more n (heard i) (length (got J i)) low (few i) in
      let there : slice_get (got J i) n ≡ Some m = sym (ap (λ (l : List Message). slice_get l n) (filter_map_append (got_from i) J K) ∙ get_front (got J i) (got K i) n more) ∙ is in
      let own = kinds i n m inside low there in
      let front : free_items J i n ≡ free_items (J ++ K) i n = sym (free_front J K i n more) in
      (own.0 ∙ ap (λ (l : List Item). reply i (map bare l)) front, subst (λ (l : List Item). n < length l) front own.1)

  pub kinds_more : (heard next : Counts) (s : ℕ) → RepeatsByKind reply within J heard → next s ≡ heard s + 1 → ((i : ℕ) → (i ≡ s → ⊥) → next i ≡ heard i)
      → ((m : Message) → within s ≡ true → slice_get (got J s) (heard s) ≡ Some m → (m ≡ reply s (map bare (free_items J s (heard s)))) × (heard s < length (free_items J s (heard s)))) → RepeatsByKind reply within J next
  kinds_more heard next s kinds one others own i n m inside low is = elim (same_or_not i s) [
    | inl q ↦ elim (same_or_not n (heard s)) [
      | inl last ↦ subst (λ (j : ℕ). (m ≡ reply j (map bare (free_items J j n))) × (n < length (free_items J j n))) (sym q) (subst (λ (k : ℕ). (m ≡ reply s (map bare (free_items J s k))) × (k < length (free_items J s k))) (sym last)
          (own m (ap within (sym q) ∙ inside) (ap (slice_get (got J s)) (sym last) ∙ ap (λ (j : ℕ). slice_get (got J j) n) (sym q) ∙ is)))
      | inr before ↦ kinds i n m inside (before_last n (heard i) (next i) low (ap next q ∙ one ∙ ap (λ (j : ℕ). heard j + 1) (sym q)) (λ e. before (e ∙ ap heard q))) is
    ]
    | inr apart ↦ kinds i n m inside (subst (λ (k : ℕ). n < k) (others i apart) low) is
  ]
