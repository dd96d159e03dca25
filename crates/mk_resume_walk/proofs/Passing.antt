-- What each step of the walk through a journal comes to.
use Rattle.std.proofs.Common.{◌≡◌, ℕ, suc, ◌+◌, ◌==◌, Bool, true, not, List, [], ◌∷◌, ◌++◌, length, drop, Some, None, if◌then◌else◌, refl, sym, ap, ◌∙◌, arith, append_assoc, length-append}
use Rattle.std.specs.List.{cons_option}
use Rattle.std.proofs.Math.Seq.{drop-append_seam}
use Rattle.std.proofs.lemmas.Bool.{eq-eqb}
use Rattle.mk_base.specs.declared.SimNo.{SimNo}
use Rattle.mk_base.proofs.Lists.{append_nil, filter_map_append}
use Rattle.mk_plan.specs.declared.Item.{Item}
use Rattle.mk_plan.specs.declared.Message.{Message}
use Rattle.mk_plan.specs.declared.Entry.{Entry}
use Rattle.mk_plan.specs.declared.Entry.TheVariants.{Sent, Got}
use Rattle.mk_plan.specs.Journals.{sent, got, sent_to, got_from}
use Rattle.mk_resume_walk.specs.Talks.{up_to, free_items}
use Rattle.mk_resume_walk.specs.Walks.{has_none, IsGoneTo, IsNextAt}
use Rattle.mk_resume_walk.proofs.UpTo.{up_to_all, up_to_behind, up_to_head}
use Rattle.mk_base.proofs.Bools.{both_hold, not_true}

-- ---- entries of others

module _ (i : ℕ) where
  pub none_got : (B : List Entry) → has_none i B ≡ true → got B i ≡ []
  none_got [] h = refl
  none_got (Sent s item ∷ B) h = none_got B (both_hold (not (s.0 == i)) (has_none i B) h).1
  none_got (Got s m ∷ B) h = let t = both_hold (not (s.0 == i)) (has_none i B) h in ap (λ (b : Bool). cons_option (if b then Some m else None) (got B i)) (not_true (s.0 == i) t.0) ∙ none_got B t.1

  pub none_sent : (B : List Entry) → has_none i B ≡ true → sent B i ≡ []
  none_sent [] h = refl
  none_sent (Sent s item ∷ B) h = let t = both_hold (not (s.0 == i)) (has_none i B) h in ap (λ (b : Bool). cons_option (if b then Some item else None) (sent B i)) (not_true (s.0 == i) t.0) ∙ none_sent B t.1
  none_sent (Got s m ∷ B) h = none_sent B (both_hold (not (s.0 == i)) (has_none i B) h).1

  got_parts : (A B : List Entry) → got (A ++ B) i ≡ got A i ++ got B i
  got_parts A B = filter_map_append (got_from i) A B

  sent_parts : (A B : List Entry) → sent (A ++ B) i ≡ sent A i ++ sent B i
  sent_parts A B = filter_map_append (sent_to i) A B

  -- with such entries behind, there are as many messages and items
  pub got_beside : (A B : List Entry) → has_none i B ≡ true → got (A ++ B) i ≡ got A i
  got_beside A B h = got_parts A B ∙ ap (λ (l : List Message). got A i ++ l) (none_got B h) ∙ append_nil (got A i)

  pub sent_beside : (A B : List Entry) → has_none i B ≡ true → sent (A ++ B) i ≡ sent A i
  sent_beside A B h = sent_parts A B ∙ ap (λ (l : List Item). sent A i ++ l) (none_sent B h) ∙ append_nil (sent A i)

  -- ---- the journal where it was gone through

  module _ (J : List Entry) (n from : ℕ) (g : IsGoneTo J i n from) where
    pub left_is : drop from J ≡ g.left
    left_is = ap (drop from) g.parts ∙ ap (λ (k : ℕ). drop k (g.gone ++ g.left)) (sym g.at) ∙ drop-append_seam g.gone g.left

    -- no entry of the simulator is left: it has sent all of its messages again, and all of its
    -- items are free and gone through
    pub walk_ends : has_none i (drop from J) ≡ true → (n ≡ length (got J i)) × (free_items J i n ≡ sent g.gone i)
    walk_ends h =
        let none : has_none i g.left ≡ true = ap (has_none i) (sym left_is) ∙ h in
        let same : got J i ≡ got g.gone i = ap (λ (K : List Entry). got K i) g.parts ∙ got_beside g.gone g.left none in
        let count : n ≡ length (got J i) = sym g.count ∙ ap length (sym same) in (
          count,
          ap (λ (K : List Entry). sent K i) (up_to_all i n J (let c = count in omega (arith, c))) ∙ ap (λ (K : List Entry). sent K i) g.parts ∙ sent_beside g.gone g.left none,
        )

    -- the next one is a message: it is the one that has to be sent again, and the items that are
    -- free were gone through
    pub walk_waits : (B : List Entry) (s : SimNo) (m : Message) (later : List Entry) → drop from J ≡ B ++ Got s m ∷ later → has_none i B ≡ true → s.0 ≡ i → IsNextAt J i n (Some (from + length B)) × (free_items J i n ≡ sent g.gone i)
    walk_waits B s m later is none own = (
      (s, m, later, own, all ∙ ap (λ (K : List Entry). K ++ Got s m ∷ later) (sym front), ap length front ∙ length-append g.gone B ∙ ap (λ (k : ℕ). k + length B) g.at),
      ap (λ (K : List Entry). sent K i) front ∙ sent_beside g.gone B none,
    )
      where
        all : J ≡ (g.gone ++ B) ++ Got s m ∷ later
        all = g.parts ∙ ap (λ (K : List Entry). g.gone ++ K) (sym left_is ∙ is) ∙ sym (append_assoc g.gone B (Got s m ∷ later))

        count : n ≡ length (got (g.gone ++ B) i) + 0
        count = let c : n ≡ length (got (g.gone ++ B) i) = sym g.count ∙ ap length (sym (got_beside g.gone B none)) in omega (arith, c)

        front : up_to i n J ≡ g.gone ++ B
        front = ap (up_to i n) all ∙ up_to_behind i n 0 (g.gone ++ B) (Got s m ∷ later) count
            ∙ ap (λ (K : List Entry). (g.gone ++ B) ++ K) (up_to_head i s m later 0 true (eq-eqb s.0 i own)) ∙ append_nil (g.gone ++ B)

    -- the next one is an item: it was gone through, and is the last of those gone through
    pub walk_sends : (B : List Entry) (s : SimNo) (item : Item) (later : List Entry) → drop from J ≡ B ++ Sent s item ∷ later → has_none i B ≡ true → s.0 ≡ i → (h : IsGoneTo J i n (from + length B + 1)) × (sent h.gone i ≡ sent g.gone i ++ item ∷ [])
    walk_sends B s item later is none own = (
      record { gone = (g.gone ++ B) ++ Sent s item ∷ []; left = later; parts = parts; at = at; count = count },
      sent_parts (g.gone ++ B) (Sent s item ∷ []) ∙ ap (λ (l : List Item). l ++ sent (Sent s item ∷ []) i) (sent_beside g.gone B none)
          ∙ ap (λ (b : Bool). sent g.gone i ++ cons_option (if b then Some item else None) []) (eq-eqb s.0 i own),
    )
      where
        parts : J ≡ ((g.gone ++ B) ++ Sent s item ∷ []) ++ later
        parts = g.parts ∙ ap (λ (K : List Entry). g.gone ++ K) (sym left_is ∙ is) ∙ sym (append_assoc g.gone B (Sent s item ∷ later)) ∙ sym (append_assoc (g.gone ++ B) (Sent s item ∷ []) later)

        at : length ((g.gone ++ B) ++ Sent s item ∷ []) ≡ from + length B + 1
        at = let a = length-append (g.gone ++ B) (Sent s item ∷ []) in let b = length-append g.gone B in let c = g.at in omega (arith, a, b, c)

        count : length (got ((g.gone ++ B) ++ Sent s item ∷ []) i) ≡ n
        count = ap length (got_parts (g.gone ++ B) (Sent s item ∷ []) ∙ append_nil (got (g.gone ++ B) i) ∙ got_beside g.gone B none) ∙ g.count

  -- the message was sent again: the walk goes on behind it, with the items that were free gone through
  pub walk_goes_on : (J : List Entry) (n p : ℕ) (t : IsNextAt J i n (Some p)) → n ≡ length (got (up_to i n J) i) → (h : IsGoneTo J i (suc n) (p + 1)) × (sent h.gone i ≡ free_items J i n)
  walk_goes_on J n p (s, m, later, own, parts, at) count = (
    record {
      gone = up_to i n J ++ Got s m ∷ [];
      left = later;
      parts = parts ∙ sym (append_assoc (up_to i n J) (Got s m ∷ []) later);
      at = length-append (up_to i n J) (Got s m ∷ []) ∙ ap (λ (k : ℕ). k + 1) at;
      count = ap length (got_parts (up_to i n J) (Got s m ∷ []) ∙ ap (λ (b : Bool). got (up_to i n J) i ++ cons_option (if b then Some m else None) []) (eq-eqb s.0 i own))
          ∙ length-append (got (up_to i n J) i) (m ∷ []) ∙ (let e : length (got (up_to i n J) i) + 1 ≡ suc n = omega (arith, count) in e);
    },
    sent_parts (up_to i n J) (Got s m ∷ []) ∙ append_nil (sent (up_to i n J) i),
  )

  -- before anything was gone through
  pub walk_begins : (J : List Entry) → (h : IsGoneTo J i 0 0) × (sent h.gone i ≡ [])
  walk_begins J = (record { gone = []; left = J; parts = refl; at = refl; count = refl }, refl)
