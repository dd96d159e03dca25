-- How far a simulator's part of a journal goes, and what is free there.
use Rattle.std.proofs.Common.{◌≡◌, ℕ, zero, suc, ◌+◌, ◌<◌, ◌≤◌, ◌==◌, Bool, true, false, List, [], ◌∷◌, ◌++◌, length, take, Some, None, slice_get, if◌then◌else◌, refl, sym, ap, ◌∙◌, arith}
use Rattle.std.specs.List.{cons_option}
use Rattle.std.proofs.lemmas.Bool.{eqb-true, eq-eqb}
use Rattle.mk_base.specs.declared.SimNo.{SimNo}
use Rattle.mk_base.proofs.Lists.{filter_map_append}
use Rattle.mk_plan.specs.declared.Item.{Item}
use Rattle.mk_plan.specs.declared.Message.{Message}
use Rattle.mk_plan.specs.declared.Entry.{Entry}
use Rattle.mk_plan.specs.declared.Entry.TheVariants.{Sent, Got}
use Rattle.mk_plan.specs.Journals.{sent, got, sent_to}
use Rattle.mk_resume_walk.specs.Talks.{up_to, free_items}

take_none : (n : ℕ) → take n (let ms : List Message = [] in ms) ≡ []
take_none zero = refl
take_none (suc n) = refl

module _ (i : ℕ) where
  -- a message in front is one of the simulator, or it isn't
  got_head : (s : SimNo) (m : Message) (J : List Entry) (b : Bool) → (s.0 == i) ≡ b → got (Got s m ∷ J) i ≡ cons_option (if b then Some m else None) (got J i)
  got_head s m J b e = ap (λ (c : Bool). cons_option (if c then Some m else None) (got J i)) e

  abbrev pub headed : SimNo → Message → List Entry → ℕ → Bool → List Entry
  headed s m J n b = if b then elim n [ zero ↦ [] | suc k ↦ Got s m ∷ up_to i k J ] else Got s m ∷ up_to i n J

  pub up_to_head : (s : SimNo) (m : Message) (J : List Entry) (n : ℕ) (b : Bool) → (s.0 == i) ≡ b → up_to i n (Got s m ∷ J) ≡ headed s m J n b
  up_to_head s m J n b e = ap (headed s m J n) e

  -- where there are no more messages it is all
  pub up_to_all : (n : ℕ) (J : List Entry) → length (got J i) ≤ n → up_to i n J ≡ J
  up_to_all n [] few = refl
  up_to_all n (Sent s item ∷ J) few = ap (λ (l : List Entry). Sent s item ∷ l) (up_to_all n J few)
  up_to_all n (Got s m ∷ J) few = go (λ k f. up_to_all k J f) n (s.0 == i) few
    where
      go : ((k : ℕ) → length (got J i) ≤ k → up_to i k J ≡ J) → (n : ℕ) (b : Bool) → length (cons_option (if b then Some m else None) (got J i)) ≤ n → headed s m J n b ≡ Got s m ∷ J
      go rec n false f = ap (λ (l : List Entry). Got s m ∷ l) (rec n f)
      go rec zero true f = absurd (let g : suc (length (got J i)) ≤ 0 = f in omega (arith, g))
      go rec (suc k) true f = ap (λ (l : List Entry). Got s m ∷ l) (rec k (let g : suc (length (got J i)) ≤ suc k = f in omega (arith, g)))

  -- it has the first messages
  pub up_to_got : (n : ℕ) (J : List Entry) → got (up_to i n J) i ≡ take n (got J i)
  up_to_got n [] = sym (take_none n)
  up_to_got n (Sent s item ∷ J) = up_to_got n J
  up_to_got n (Got s m ∷ J) = go (λ k. up_to_got k J) n (s.0 == i) refl
    where
      go : ((k : ℕ) → got (up_to i k J) i ≡ take k (got J i)) → (n : ℕ) (b : Bool) → (s.0 == i) ≡ b → got (headed s m J n b) i ≡ take n (got (Got s m ∷ J) i)
      go rec n false e = got_head s m (up_to i n J) false e ∙ rec n ∙ ap (take n) (sym (got_head s m J false e))
      go rec zero true e = refl
      go rec (suc k) true e = got_head s m (up_to i k J) true e ∙ ap (λ (l : List Message). m ∷ l) (rec k) ∙ ap (take (suc k)) (sym (got_head s m J true e))

  -- behind all of A it goes on with what follows
  pub up_to_behind : (n k : ℕ) (A K : List Entry) → n ≡ length (got A i) + k → up_to i n (A ++ K) ≡ A ++ up_to i k K
  up_to_behind n k [] K e = ap (λ (j : ℕ). up_to i j K) (let f : n ≡ k = omega (arith, e) in f)
  up_to_behind n k (Sent s item ∷ A) K e = ap (λ (l : List Entry). Sent s item ∷ l) (up_to_behind n k A K e)
  up_to_behind n k (Got s m ∷ A) K e = go (λ j f. up_to_behind j k A K f) n (s.0 == i) e
    where
      go : ((j : ℕ) → j ≡ length (got A i) + k → up_to i j (A ++ K) ≡ A ++ up_to i k K) → (n : ℕ) (b : Bool) → n ≡ length (cons_option (if b then Some m else None) (got A i)) + k → headed s m (A ++ K) n b ≡ Got s m ∷ (A ++ up_to i k K)
      go rec n false f = ap (λ (l : List Entry). Got s m ∷ l) (rec n f)
      go rec zero true f = absurd (let g : 0 ≡ suc (length (got A i)) + k = f in omega (arith, g))
      go rec (suc j) true f = ap (λ (l : List Entry). Got s m ∷ l) (rec j (let g : suc j ≡ suc (length (got A i)) + k = f in omega (arith, g)))

  -- what follows changes nothing where there is a next message
  pub up_to_front : (n : ℕ) (J K : List Entry) → n < length (got J i) → up_to i n (J ++ K) ≡ up_to i n J
  up_to_front n [] K more = absurd (let g : n < 0 = more in omega (arith, g))
  up_to_front n (Sent s item ∷ J) K more = ap (λ (l : List Entry). Sent s item ∷ l) (up_to_front n J K more)
  up_to_front n (Got s m ∷ J) K more = go (λ k f. up_to_front k J K f) n (s.0 == i) more
    where
      go : ((k : ℕ) → k < length (got J i) → up_to i k (J ++ K) ≡ up_to i k J) → (n : ℕ) (b : Bool) → n < length (cons_option (if b then Some m else None) (got J i)) → headed s m (J ++ K) n b ≡ headed s m J n b
      go rec n false f = ap (λ (l : List Entry). Got s m ∷ l) (rec n f)
      go rec zero true f = refl
      go rec (suc k) true f = ap (λ (l : List Entry). Got s m ∷ l) (rec k (let g : suc k < suc (length (got J i)) = f in omega (arith, g)))

  -- the next message, and what stands around it
  pub record IsNextAfter (n : ℕ) (J : List Entry) : Type 0 where
    pub sim : SimNo
    pub message : Message
    pub later : List Entry
    pub same : sim.0 ≡ i
    pub parts : J ≡ up_to i n J ++ Got sim message ∷ later
    pub is : slice_get (got J i) n ≡ Some message

  pub next_after : (n : ℕ) (J : List Entry) → n < length (got J i) → IsNextAfter n J
  next_after n [] more = absurd (let g : n < 0 = more in omega (arith, g))
  next_after n (Sent s item ∷ J) more = let t = next_after n J more in record { sim = t.sim; message = t.message; later = t.later; same = t.same; parts = ap (λ (l : List Entry). Sent s item ∷ l) t.parts; is = t.is }
  next_after n (Got s m ∷ J) more = go (λ k f. next_after k J f) n (s.0 == i) refl more
    where
      go : ((k : ℕ) → k < length (got J i) → IsNextAfter k J) → (n : ℕ) (b : Bool) → (s.0 == i) ≡ b → n < length (cons_option (if b then Some m else None) (got J i)) → IsNextAfter n (Got s m ∷ J)
      go rec n false e f = let t = rec n f in record {
        sim = t.sim;
        message = t.message;
        later = t.later;
        same = t.same;
        parts = ap (λ (l : List Entry). Got s m ∷ l) t.parts ∙ ap (λ (l : List Entry). l ++ Got t.sim t.message ∷ t.later) (sym (up_to_head s m J n false e));
        is = ap (λ (l : List Message). slice_get l n) (got_head s m J false e) ∙ t.is;
      }
      go rec zero true e f = record {
        sim = s;
        message = m;
        later = J;
        same = eqb-true s.0 i e;
        parts = ap (λ (l : List Entry). l ++ Got s m ∷ J) (sym (up_to_head s m J zero true e));
        is = ap (λ (l : List Message). slice_get l 0) (got_head s m J true e);
      }
      go rec (suc k) true e f = let t = rec k (let g : suc k < suc (length (got J i)) = f in omega (arith, g)) in record {
        sim = t.sim;
        message = t.message;
        later = t.later;
        same = t.same;
        parts = ap (λ (l : List Entry). Got s m ∷ l) t.parts ∙ ap (λ (l : List Entry). l ++ Got t.sim t.message ∷ t.later) (sym (up_to_head s m J (suc k) true e));
        is = ap (λ (l : List Message). slice_get l (suc k)) (got_head s m J true e) ∙ t.is;
      }

-- ---- what is free

-- all items are, where no message is left
pub free_all : (J : List Entry) (i n : ℕ) → length (got J i) ≤ n → free_items J i n ≡ sent J i
free_all J i n few = ap (λ (K : List Entry). sent K i) (up_to_all i n J few)

-- what is sent and got behind the next message frees nothing
pub free_front : (J K : List Entry) (i n : ℕ) → n < length (got J i) → free_items (J ++ K) i n ≡ free_items J i n
free_front J K i n more = ap (λ (L : List Entry). sent L i) (up_to_front i n J K more)

-- what is free without a message is free with it, and with it what follows up to the one after
pub free_next : (J : List Entry) (i n : ℕ) (t : IsNextAfter i n J) → n ≡ length (got (up_to i n J) i) → free_items J i (suc n) ≡ free_items J i n ++ sent (up_to i 0 t.later) i
free_next J i n t count =
    ap (λ (K : List Entry). sent (up_to i (suc n) K) i) t.parts
    ∙ ap (λ (K : List Entry). sent K i) (up_to_behind i (suc n) 1 (up_to i n J) (Got t.sim t.message ∷ t.later) (omega (arith, count)))
    ∙ filter_map_append (sent_to i) (up_to i n J) (up_to i 1 (Got t.sim t.message ∷ t.later))
    ∙ ap (λ (l : List Item). sent (up_to i n J) i ++ l) (ap (λ (K : List Entry). sent K i) (up_to_head i t.sim t.message t.later 1 true (same_is t.sim.0 i t.same)))
  where
    same_is : (a b : ℕ) → a ≡ b → (a == b) ≡ true
    same_is a b e = eq-eqb a b e
