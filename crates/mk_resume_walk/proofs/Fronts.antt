-- How many items are free, in an orderly journal without a fault.
use Rattle.std.proofs.Common.{◌≡◌, ◌⊎◌, inl, inr, ℕ, ◌+◌, ◌<◌, ◌≤◌, Bool, List, [], ◌∷◌, ◌++◌, length, fold, Some, None, if◌then◌else◌, sym, ap, ◌∙◌, subst, arith, append_assoc, length-append}
use Rattle.std.specs.List.{cons_option}
use Rattle.std.proofs.lemmas.Bool.{eq-eqb}
use Rattle.mk_base.specs.declared.SimNo.{SimNo}
use Rattle.mk_base.proofs.Lists.{append_nil, filter_map_append}
use Rattle.mk_plan.specs.declared.Plan.{Plan}
use Rattle.mk_plan.specs.declared.Message.{Message}
use Rattle.mk_plan.specs.declared.Item.{Item}
use Rattle.mk_plan.specs.declared.Entry.{Entry}
use Rattle.mk_plan.specs.declared.Entry.TheVariants.{Got}
use Rattle.mk_plan.specs.Journals.{View, view, empty_view, sent, got, got_from, sent_to, note}
use Rattle.mk_plan.specs.Ready.{IsReady}
use Rattle.mk_plan.specs.Advance.{IsAdvance}
use Rattle.mk_plan.specs.Orderly.{IsOrderlyFrom, IsOrderlySoFar}
use Rattle.mk_resume_walk.specs.Talks.{free_items, up_to}
use Rattle.mk_resume_walk.specs.Laws.{FreeItemsAlternate}
use Rattle.mk_resume_walk.proofs.Alternating.{alternate, balanced, none_open}
use Rattle.mk_resume_walk.proofs.GoingOn.{up_to_counted}
use Rattle.mk_resume_walk.proofs.UpTo.{IsNextAfter, free_all, next_after}
use Rattle.mk_base.proofs.Counts.{same_or_not}

-- ---- beginnings of a journal

module _ (P : Plan) where
  orderly_front : (V : View) (A B : List Entry) → IsOrderlyFrom IsReady IsAdvance P V (A ++ B) → IsOrderlyFrom IsReady IsAdvance P V A
  orderly_front V [] B h = tt
  orderly_front V (e ∷ A) B h = (h.0, orderly_front (note P V e) A B h.1)

  fault_front : (V : View) (A B : List Entry) → IsOrderlyFrom IsReady IsAdvance P V (A ++ B) → (fold (note P) V (A ++ B)).fault ≡ None → (fold (note P) V A).fault ≡ None
  fault_front V [] [] h fine = fine
  fault_front V [] (e ∷ B) h fine = h.0.0
  fault_front V (e ∷ A) B h fine = fault_front (note P V e) A B h.1 fine

-- the journal that is a beginning of another
record IsFront (P : Plan) (A : List Entry) : Type 0 where
  orderly : IsOrderlySoFar IsReady IsAdvance P A
  fine : (view P A).fault ≡ None

front_of : (P : Plan) (J A B : List Entry) → J ≡ A ++ B → IsOrderlySoFar IsReady IsAdvance P J → (view P J).fault ≡ None → IsFront P A
front_of P J A B is orderly fine =
    let whole : IsOrderlySoFar IsReady IsAdvance P (A ++ B) = subst (IsOrderlySoFar IsReady IsAdvance P) is orderly in record {
      orderly = orderly_front P empty_view A B whole;
      fine = fault_front P empty_view A B whole (sym (ap (λ (K : List Entry). (view P K).fault) is) ∙ fine);
    }

-- ---- numbers, apart from what stands around them

both_say : (a n b : ℕ) → (a ≡ n) ⊎ (a ≡ n + 1) → (a ≡ b) ⊎ (a ≡ b + 1) → b ≡ n + 1 → a ≡ n + 1
both_say a n b (inl p) (inl q) is = q ∙ is
both_say a n b (inl p) (inr q) is = absurd (omega (arith, p, q, is))
both_say a n b (inr p) h is = p

few_or_more : (n k : ℕ) → n ≤ k → (n < k) ⊎ (k ≡ n)
few_or_more n k few = go (same_or_not k n)
  where
    go : (k ≡ n) ⊎ (k ≡ n → ⊥) → (n < k) ⊎ (k ≡ n)
    go (inl e) = inr e
    go (inr apart) = inl (omega (arith, few, apart))

-- ---- what is free

module _ (P : Plan) (J : List Entry) (orderly : IsOrderlySoFar IsReady IsAdvance P J) (fine : (view P J).fault ≡ None) (i n : ℕ) where
  -- at each message one item more was sent than messages came
  behind_one : (s : SimNo) (m : Message) (H later : List Entry) → s.0 ≡ i → J ≡ H ++ Got s m ∷ later → n ≡ length (got H i) → length (sent H i) ≡ n + 1
  behind_one s m H later same parts count =
      let before = front_of P J H (Got s m ∷ later) parts orderly fine in
      let behind = front_of P J (H ++ Got s m ∷ []) later (parts ∙ sym (append_assoc H (Got s m ∷ []) later)) orderly fine in
      both_say (length (sent H i)) n (length (got (H ++ Got s m ∷ []) i))
      (subst (λ (k : ℕ). (length (sent H i) ≡ k) ⊎ (length (sent H i) ≡ k + 1)) (sym count) (alternate P H before.orderly before.fine i))
      (subst (λ (l : List Item). (length l ≡ length (got (H ++ Got s m ∷ []) i)) ⊎ (length l ≡ length (got (H ++ Got s m ∷ []) i) + 1)) (filter_map_append (sent_to i) H (Got s m ∷ []) ∙ append_nil (sent H i))
      (alternate P (H ++ Got s m ∷ []) behind.orderly behind.fine i))
      (ap length (filter_map_append (got_from i) H (Got s m ∷ []) ∙ ap (λ (b : Bool). got H i ++ cons_option (if b then Some m else None) []) (eq-eqb s.0 i same)) ∙ length-append (got H i) (m ∷ []) ∙ ap (λ (k : ℕ). k + 1) (sym count))

  one_more : n < length (got J i) → length (free_items J i n) ≡ n + 1
  one_more more = let t : IsNextAfter i n J = next_after i n J more in behind_one t.sim t.message (up_to i n J) t.later t.same t.parts (up_to_counted J i n more)

  at_most : n ≤ length (got J i) → (length (free_items J i n) ≡ n) ⊎ (length (free_items J i n) ≡ n + 1)
  at_most few = elim (few_or_more n (length (got J i)) few) [
    | inl more ↦ inr (one_more more)
    | inr all ↦ subst (λ (l : List Item). (length l ≡ n) ⊎ (length l ≡ n + 1)) (sym (free_all J i n (omega (arith, all))))
        (subst (λ (k : ℕ). (length (sent J i) ≡ k) ⊎ (length (sent J i) ≡ k + 1)) all (alternate P J orderly fine i))
  ]

-- a simulator to which nothing is owed, and which has sent as many messages as it was sent free
-- items, has no request open
pub all_replied : (P : Plan) (J : List Entry) (i n : ℕ) → IsOrderlySoFar IsReady IsAdvance P J → (view P J).fault ≡ None → (view P J).owed ≡ None → n ≤ length (got J i) → length (free_items J i n) ≤ n → (view P J).open_at i ≡ None
all_replied P J i n orderly fine paid few replied = elim (few_or_more n (length (got J i)) few) [
  | inl more ↦ let one = one_more P J orderly fine i n more in absurd (omega (arith, one, replied))
  | inr all ↦
      let free = ap length (free_all J i n (omega (arith, all))) in
      let out = balanced P J orderly fine i in
      none_open (view P J) i paid (omega (arith, free, out, replied, all))
]

pub free_alternate : FreeItemsAlternate
free_alternate = record { at_most = at_most; one_more = one_more }
