-- What a resumed run's journal has of each simulator once it has got an entry more.
use Rattle.std.proofs.Common.{◌≡◌, inl, inr, ℕ, zero, suc, ◌+◌, ◌<◌, ◌≤◌, true, List, [], ◌∷◌, ◌++◌, length, take, slice_get, Some, refl, sym, ap, ◌∙◌, subst, arith, length-append}
use Rattle.std.proofs.lemmas.List.{take_all}
use Rattle.mk_base.specs.declared.SimNo.{SimNo}
use Rattle.mk_base.proofs.Lists.{append_nil, none_some, some_same}
use Rattle.mk_plan.specs.declared.Item.{Item}
use Rattle.mk_plan.specs.declared.Message.{Message}
use Rattle.mk_plan.specs.declared.Entry.{Entry}
use Rattle.mk_plan.specs.declared.Entry.TheVariants.{Sent, Got}
use Rattle.mk_plan.specs.Journals.{sent, got}
use Rattle.mk_run_laws.specs.Crews.{given_by}
use Rattle.mk_run_laws.proofs.Stepping.{sent_here, sent_away, got_here, got_away, sent_got, got_given, got_sent, given_here, given_away}
use Rattle.mk_resume_walk.specs.Talks.{free_items}
use Rattle.mk_resume_walk.proofs.UpTo.{free_all, free_front, up_to_behind, up_to_head}
use Rattle.mk_resume_links.specs.Rests.{repeated}
use Rattle.mk_base.proofs.Counts.{below_or_not, same_self}

-- ---- lists

take_more : (xs : List Message) (n : ℕ) (x : Message) → slice_get xs n ≡ Some x → take (n + 1) xs ≡ take n xs ++ x ∷ []
take_more xs n x is = ap (λ (k : ℕ). take k xs) (let e : n + 1 ≡ suc n = omega arith in e) ∙ go xs n is
  where
    go : (xs : List Message) (n : ℕ) → slice_get xs n ≡ Some x → take (suc n) xs ≡ take n xs ++ x ∷ []
    go [] n is = absurd (none_some is)
    go (y ∷ ys) zero is = ap (λ (z : Message). z ∷ []) (some_same is)
    go (y ∷ ys) (suc n) is = ap (λ (l : List Message). y ∷ l) (go ys n is)

-- ---- an item more

pub repeated_sent : (J : List Entry) (s : SimNo) (item : Item) (i n : ℕ) → repeated (J ++ Sent s item ∷ []) i n ≡ repeated J i n
repeated_sent J s item i n = ap (take n) (got_sent J s item i)

pub count_sent : (J : List Entry) (s : SimNo) (item : Item) (i : ℕ) → length (got (J ++ Sent s item ∷ []) i) ≡ length (got J i)
count_sent J s item i = ap length (got_sent J s item i)

-- it is free, where its simulator has caught up; where it hasn't, nothing more is
pub free_sent_here : (J : List Entry) (s : SimNo) (item : Item) (n : ℕ) → length (got J s.0) ≤ n → free_items (J ++ Sent s item ∷ []) s.0 n ≡ free_items J s.0 n ++ item ∷ []
free_sent_here J s item n few =
    free_all (J ++ Sent s item ∷ []) s.0 n (subst (λ (k : ℕ). k ≤ n) (sym (count_sent J s item s.0)) few) ∙ sent_here J s item ∙ ap (λ (l : List Item). l ++ item ∷ []) (sym (free_all J s.0 n few))

pub free_sent_behind : (J : List Entry) (s : SimNo) (item : Item) (n : ℕ) → n < length (got J s.0) → free_items (J ++ Sent s item ∷ []) s.0 n ≡ free_items J s.0 n
free_sent_behind J s item n more = free_front J (Sent s item ∷ []) s.0 n more

pub free_sent_away : (J : List Entry) (s : SimNo) (item : Item) (i n : ℕ) → (i ≡ s.0 → ⊥) → free_items (J ++ Sent s item ∷ []) i n ≡ free_items J i n
free_sent_away J s item i n apart = elim (below_or_not n (length (got J i))) [
  | inl more ↦ free_front J (Sent s item ∷ []) i n more
  | inr few ↦ free_all (J ++ Sent s item ∷ []) i n (subst (λ (k : ℕ). k ≤ n) (sym (count_sent J s item i)) few) ∙ sent_away J s item i apart ∙ sym (free_all J i n few)
]

-- ---- a message more

-- nothing more is free to the others, nor to its simulator, which had caught up
pub free_got_away : (J : List Entry) (s : SimNo) (m : Message) (i n : ℕ) → (i ≡ s.0 → ⊥) → free_items (J ++ Got s m ∷ []) i n ≡ free_items J i n
free_got_away J s m i n apart = elim (below_or_not n (length (got J i))) [
  | inl more ↦ free_front J (Got s m ∷ []) i n more
  | inr few ↦ free_all (J ++ Got s m ∷ []) i n (subst (λ (k : ℕ). k ≤ n) (sym (ap length (got_away J s m i apart))) few) ∙ sent_got J s m i ∙ sym (free_all J i n few)
]

pub free_got_here : (J : List Entry) (s : SimNo) (m : Message) (n : ℕ) → n ≡ length (got J s.0) → free_items (J ++ Got s m ∷ []) s.0 (n + 1) ≡ free_items J s.0 n
free_got_here J s m n caught =
    free_all (J ++ Got s m ∷ []) s.0 (n + 1) (let long = ap length (got_here J s m) ∙ length-append (got J s.0) (m ∷ []) in omega (arith, caught, long)) ∙ sent_got J s m s.0 ∙ sym (free_all J s.0 n (omega (arith, caught)))

-- ---- what was sent again, with one message more

pub repeated_here : (J : List Entry) (s : ℕ) (m : Message) (n : ℕ) → slice_get (got J s) n ≡ Some m → repeated J s (n + 1) ≡ repeated J s n ++ given_by s m s
repeated_here J s m n is = take_more (got J s) n m is ∙ ap (λ (l : List Message). repeated J s n ++ l) (sym (given_here s m))

pub repeated_away : (J : List Entry) (s : ℕ) (m : Message) (i n : ℕ) → (i ≡ s → ⊥) → repeated J i n ≡ repeated J i n ++ given_by s m i
repeated_away J s m i n apart = sym (ap (λ (l : List Message). repeated J i n ++ l) (given_away s m i apart) ∙ append_nil (repeated J i n))

-- and with the message that the journal has got
pub repeated_got_here : (J : List Entry) (s : SimNo) (m : Message) (n : ℕ) → n ≡ length (got J s.0) → repeated (J ++ Got s m ∷ []) s.0 (n + 1) ≡ repeated J s.0 n ++ given_by s.0 m s.0
repeated_got_here J s m n caught =
    take_all (n + 1) (got (J ++ Got s m ∷ []) s.0) (let long = ap length (got_here J s m) ∙ length-append (got J s.0) (m ∷ []) in omega (arith, caught, long))
    ∙ got_given J s m s.0 ∙ ap (λ (l : List Message). l ++ given_by s.0 m s.0) (sym (take_all n (got J s.0) (omega (arith, caught))))

pub repeated_got_away : (J : List Entry) (s : SimNo) (m : Message) (i n : ℕ) → (i ≡ s.0 → ⊥) → repeated (J ++ Got s m ∷ []) i n ≡ repeated J i n ++ given_by s.0 m i
repeated_got_away J s m i n apart = ap (take n) (got_away J s m i apart) ∙ repeated_away J s.0 m i n apart

-- ---- the message that the journal has got

pub last_there : (xs ys : List Message) (m : Message) (n : ℕ) → n ≡ length xs → ys ≡ xs ++ m ∷ [] → slice_get ys n ≡ Some m
last_there xs ys m n end is = ap (λ (l : List Message). slice_get l n) is ∙ ap (slice_get (xs ++ m ∷ [])) end ∙ at_end xs
  where
    at_end : (xs : List Message) → slice_get (xs ++ m ∷ []) (length xs) ≡ Some m
    at_end [] = refl
    at_end (x ∷ xs) = at_end xs

-- what was free before it is what was free by then
pub free_before : (J : List Entry) (s : SimNo) (m : Message) (n : ℕ) → n ≡ length (got J s.0) → free_items (J ++ Got s m ∷ []) s.0 n ≡ free_items J s.0 n
free_before J s m n caught =
    ap (λ (K : List Entry). sent K s.0) (up_to_behind s.0 n 0 J (Got s m ∷ []) (omega (arith, caught)) ∙ ap (λ (K : List Entry). J ++ K) (up_to_head s.0 s m [] 0 true (same_self s.0)) ∙ append_nil J)
    ∙ sym (free_all J s.0 n (omega (arith, caught)))
