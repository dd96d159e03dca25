-- The messages that wait, simulator by simulator.
use Rattle.std.proofs.Common.{◌≡◌, ℕ, zero, suc, ◌+◌, ◌<◌, ◌==◌, true, false, cond, List, [], ◌∷◌, ◌++◌, length, map, filter, reverse, Some, slice_get, slice_set, All, refl, sym, ap, ◌∙◌, subst, ◌⊎◌, inl, inr, arith, append_assoc, length-append}
use Rattle.std.specs.List.{list_all}
use Rattle.std.proofs.lemmas.Bool.{cases_eq, eqb-true, eq-eqb, and_parts, and_from}
use Rattle.std.proofs.lemmas.List.{reverse-append}
use Rattle.std.proofs.lemmas.List.Folds.{list_all-append}
use Rattle.mk_base.specs.Lists.{IsIn}
use Rattle.mk_base.proofs.Lists.{some_same, none_some, get_is, below_get, append_nil, filter_append, map_append, length_set, set_here, set_else, all_in, in_back}
use Rattle.mk_plan.specs.declared.Message.{Message}
use Rattle.mk_plan.specs.Journals.{Arrival}
use Rattle.mk_record_read.specs.declared.saved.Arrival as saved
use Rattle.mk_record_read.specs.Seen.{came}
use Rattle.mk_record_replay.specs.Replays.{messages_from}
use Rattle.mk_record_replay.specs.inner.Rounds.{AreWaiting, AreFit}
use Rattle.mk_plan.specs.Messages.{is_message_in_range}

-- the message of an arrival, if it is the simulator's
abbrev pub one_of : Arrival → ℕ → List Message
one_of a i = cond (a.sim == i) (a.message ∷ []) []

pub front_of : (a : Arrival) (A : List Arrival) (i : ℕ) → messages_from (a ∷ A) i ≡ one_of a i ++ messages_from A i
front_of a A i = elim (a.sim == i) as (λ b. map (λ (x : Arrival). x.message) (cond b (a ∷ filter (λ (x : Arrival). x.sim == i) A) (filter (λ (x : Arrival). x.sim == i) A)) ≡ cond b (a.message ∷ []) [] ++ messages_from A i) [ true ↦ refl | false ↦ refl ]

pub messages_append : (A B : List Arrival) (i : ℕ) → messages_from (A ++ B) i ≡ messages_from A i ++ messages_from B i
messages_append A B i = ap (map (λ (x : Arrival). x.message)) (filter_append (λ (x : Arrival). x.sim == i) A B) ∙ map_append (λ (x : Arrival). x.message) (filter (λ (x : Arrival). x.sim == i) A) (filter (λ (x : Arrival). x.sim == i) B)

pub back_of : (A : List Arrival) (a : Arrival) (i : ℕ) → messages_from (A ++ a ∷ []) i ≡ messages_from A i ++ one_of a i
back_of A a i = messages_append A (a ∷ []) i ∙ ap (λ (l : List Message). messages_from A i ++ l) (front_of a [] i ∙ append_nil (one_of a i))

pub one_here : (a : Arrival) (i : ℕ) → i ≡ a.sim → one_of a i ≡ a.message ∷ []
one_here a i e = let same : (a.sim == i) ≡ true = eq-eqb a.sim i (sym e) in rw same refl

one_else : (a : Arrival) (i : ℕ) → (i ≡ a.sim → ⊥) → one_of a i ≡ []
one_else a i n = elim (a.sim == i) as (λ b. (a.sim == i) ≡ b → cond b (a.message ∷ []) [] ≡ []) [ true ↦ λ e. absurd (n (sym (eqb-true a.sim i e))) | false ↦ λ e. refl ] refl

-- ---- before any message is put

pub last_or_there : {X : Type 0} (xs : List X) (y z : X) (i : ℕ) → slice_get (xs ++ y ∷ []) i ≡ Some z → (slice_get xs i ≡ Some z) ⊎ (z ≡ y)
last_or_there [] y z zero e = inr (sym (some_same e))
last_or_there [] y z (suc i) e = absurd (none_some e)
last_or_there (x ∷ xs) y z zero e = inl e
last_or_there (x ∷ xs) y z (suc i) e = last_or_there xs y z i e

pub waiting_first : AreWaiting 0 [] [] []
waiting_first = record { all = refl; each = λ i left e. absurd (none_some e); beyond = λ i h. refl }

pub fit_first : AreFit 0 []
fit_first = record { all = refl; each = λ i left e. absurd (none_some e) }

pub waiting_more : (n : ℕ) (lists : List (List Message)) → AreWaiting n [] [] lists → AreWaiting (n + 1) [] [] (lists ++ [] ∷ [])
waiting_more n lists h = record {
  all = length-append lists ([] ∷ []) ∙ ap (λ k. k + 1) h.all;
  each = λ i left e. elim (last_or_there lists [] left i e) [ inl there ↦ h.each i left there | inr last ↦ sym (ap reverse last) ];
  beyond = λ i h. refl;
}

pub fit_more : (n : ℕ) (lists : List (List Message)) → AreFit n lists → AreFit (n + 1) (lists ++ [] ∷ [])
fit_more n lists h = record {
  all = length-append lists ([] ∷ []) ∙ ap (λ k. k + 1) h.all;
  each = λ i left e. elim (last_or_there lists [] left i e) [ inl there ↦ h.each i left there | inr last ↦ ap (list_all is_message_in_range) last ];
}

-- ---- a message is put behind those of its simulator

module _ (n : ℕ) (lists : List (List Message)) (i : ℕ) (more : List Message) where
  -- another list stays, and this one is the new one
  changed : (k : ℕ) (l : List Message) → i < length lists → slice_get (slice_set lists i more) k ≡ Some l → ((k ≡ i) × (l ≡ more)) ⊎ ((k ≡ i → ⊥) × (slice_get lists k ≡ Some l))
  changed k l low e = elim (cases_eq k i) [
    | inl same ↦ let t = below_get lists i low in inl (same, some_same (sym e ∙ ap (λ j. slice_get (slice_set lists i more) j) same ∙ set_here lists i more t.0 t.1))
    | inr apart ↦ inr (apart, sym (set_else lists i k more apart) ∙ e)
  ]

  pub fit_changed : AreFit n lists → i < length lists → list_all is_message_in_range more ≡ true → AreFit n (slice_set lists i more)
  fit_changed h low ranged = record {
    all = length_set lists i more ∙ h.all;
    each = λ k l e. elim (changed k l low e) [ inl t ↦ ap (list_all is_message_in_range) t.1 ∙ ranged | inr t ↦ h.each k l t.1 ];
  }

  -- the lists are those of A behind C, if this one is, and the others were those of B behind D with
  -- the same in them
  pub waiting_changed : (A B C D : List Arrival) → AreWaiting n B D lists → i < length lists → messages_from A i ≡ messages_from C i ++ reverse more
      → ((k : ℕ) → (k ≡ i → ⊥) → (messages_from A k ≡ messages_from B k) × (messages_from C k ≡ messages_from D k)) → AreWaiting n A C (slice_set lists i more)
  waiting_changed A B C D h low here else_ = record {
    all = length_set lists i more ∙ h.all;
    beyond = λ k far. let apart : k ≡ i → ⊥ = λ e. absurd (let all = h.all in omega (arith, far, e, low, all)) in (else_ k apart).1 ∙ h.beyond k far ∙ sym (else_ k apart).0;
    each = λ k l e. elim (changed k l low e) [
      | inl t ↦ subst (λ (j : ℕ). messages_from A j ≡ messages_from C j ++ reverse l) (sym t.0) (here ∙ ap (λ (m : List Message). messages_from C i ++ reverse m) (sym t.1))
      | inr t ↦ (else_ k t.0).0 ∙ h.each k l t.1 ∙ ap (λ (m : List Message). m ++ reverse l) (sym (else_ k t.0).1)
    ];
  }

reversed : (left : List Message) (m : Message) → reverse (left ++ m ∷ []) ≡ m ∷ reverse left
reversed left m = reverse-append left (m ∷ [])

-- the last message that isn't put yet is put
pub waiting_put : (n : ℕ) (a : Arrival) (A : List Arrival) (lists : List (List Message)) (left : List Message) → AreWaiting n A [] lists → slice_get lists a.sim ≡ Some left → AreWaiting n (a ∷ A) [] (slice_set lists a.sim (left ++ a.message ∷ []))
waiting_put n a A lists left h there = waiting_changed n lists a.sim (left ++ a.message ∷ []) (a ∷ A) A [] [] h (get_is lists a.sim left there).0
    (front_of a A a.sim ∙ ap (λ (l : List Message). l ++ messages_from A a.sim) (one_here a a.sim refl) ∙ ap (λ (l : List Message). a.message ∷ l) (h.each a.sim left there) ∙ sym (reversed left a.message))
    (λ k apart. (front_of a A k ∙ ap (λ (l : List Message). l ++ messages_from A k) (one_else a k apart), refl))

pub fit_put : (n i : ℕ) (m : Message) (lists : List (List Message)) (left : List Message) → AreFit n lists → slice_get lists i ≡ Some left → is_message_in_range m ≡ true → AreFit n (slice_set lists i (left ++ m ∷ []))
fit_put n i m lists left h there ranged = fit_changed n lists i (left ++ m ∷ []) h (get_is lists i left there).0 (list_all-append is_message_in_range left (m ∷ []) ∙ and_from _ _ (h.each i left there) (and_from _ _ ranged refl))

-- ---- the last message of a simulator is given

module _ (n : ℕ) (lists : List (List Message)) (i : ℕ) (left less : List Message) (m : Message) (there : slice_get lists i ≡ Some left) (parts : left ≡ less ++ m ∷ []) where
  fit_parts : AreFit n lists → (list_all is_message_in_range less ≡ true) × (is_message_in_range m ≡ true)
  fit_parts h =
      let t = and_parts (list_all is_message_in_range less) (list_all is_message_in_range (m ∷ [])) (sym (list_all-append is_message_in_range less (m ∷ [])) ∙ ap (list_all is_message_in_range) (sym parts) ∙ h.each i left there) in
      (t.0, (and_parts (is_message_in_range m) true t.1).0)

  pub message_fits : AreFit n lists → is_message_in_range m ≡ true
  message_fits h = (fit_parts h).1

  pub fit_given : AreFit n lists → AreFit n (slice_set lists i less)
  fit_given h = fit_changed n lists i less h (get_is lists i left there).0 (fit_parts h).0

  pub waiting_given : (A C : List Arrival) → AreWaiting n A C lists → AreWaiting n A (C ++ record { sim = i; message = m } ∷ []) (slice_set lists i less)
  waiting_given A C h =
      let a : Arrival = record { sim = i; message = m } in
      waiting_changed n lists i less A A (C ++ a ∷ []) C h (get_is lists i left there).0
      (h.each i left there ∙ ap (λ (l : List Message). messages_from C i ++ reverse l) parts ∙ ap (λ (l : List Message). messages_from C i ++ l) (reversed less m) ∙ sym (append_assoc (messages_from C i) (m ∷ []) (reverse less))
      ∙ ap (λ (l : List Message). l ++ reverse less) (sym (back_of C a i ∙ ap (λ (l : List Message). messages_from C i ++ l) (one_here a i refl))))
      (λ k apart. (refl, back_of C a k ∙ ap (λ (l : List Message). messages_from C k ++ l) (one_else a k apart) ∙ append_nil (messages_from C k)))

-- ---- the messages of a record are put, the last one first

module _ (n : ℕ) (all left less done : List saved.Arrival) (a : saved.Arrival) (lists new : List (List Message)) where
  abbrev Fits : saved.Arrival → Type 0
  Fits x = (x.sim.0 < n) × (is_message_in_range x.message ≡ true)

  pub parts_put : all ≡ left ++ done → left ≡ less ++ a ∷ [] → all ≡ less ++ (a ∷ done)
  parts_put whole last = whole ∙ ap (λ (l : List saved.Arrival). l ++ done) last ∙ append_assoc less (a ∷ []) done

  one_fits : All Fits all → all ≡ left ++ done → left ≡ less ++ a ∷ [] → Fits a
  one_fits h whole last = all_in Fits all a h (subst (IsIn a) (sym (parts_put whole last)) (in_back a less (a ∷ done) (inl refl)))

  pub one_within : All Fits all → all ≡ left ++ done → left ≡ less ++ a ∷ [] → AreFit n lists → a.sim.0 < length lists
  one_within h whole last fit = subst (λ k. a.sim.0 < k) (sym fit.all) (one_fits h whole last).0

  module _ (h : All Fits all) (whole : all ≡ left ++ done) (last : left ≡ less ++ a ∷ []) (fit : AreFit n lists)
      (put : (l : List Message) → slice_get lists a.sim.0 ≡ Some l → new ≡ slice_set lists a.sim.0 (l ++ a.message ∷ [])) where
    pub waits_put : AreWaiting n (map came done) [] lists → AreWaiting n (map came (a ∷ done)) [] new
    waits_put waits = let t = below_get lists a.sim.0 (one_within h whole last fit) in
        subst (λ (l : List (List Message)). AreWaiting n (came a ∷ map came done) [] l) (sym (put t.0 t.1)) (waiting_put n (came a) (map came done) lists t.0 waits t.1)

    pub fits_put : AreFit n new
    fits_put = let t = below_get lists a.sim.0 (one_within h whole last fit) in
        subst (AreFit n) (sym (put t.0 t.1)) (fit_put n a.sim.0 a.message lists t.0 fit t.1 (one_fits h whole last).1)
