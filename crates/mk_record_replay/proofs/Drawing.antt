-- The order of messages that is drawn, entry by entry.
use Rattle.std.proofs.Common.{◌≡◌, ℕ, suc, ◌+◌, ◌%◌, ◌<◌, ◌==◌, Bool, true, false, ◌&&◌, nat_lt, List, [], ◌∷◌, ◌++◌, length, filter, fold, reverse, Option, Some, None, is_some, slice_get, refl, sym, ap, ◌∙◌, subst, ◌⊎◌, inl, inr, arith, append_assoc, length-append, true≢false}
use Rattle.std.proofs.lemmas.List.{length-reverse}
use Rattle.std.specs.Prelude.{not, ◌||◌, if◌then◌else◌}
use Rattle.std.specs.List.{range_with_len}
use Rattle.std.proofs.lemmas.Bool.{and_parts, eqb-true}
use Rattle.mk_base.specs.declared.SimNo.{SimNo}
use Rattle.mk_base.specs.Lists.{IsIn}
use Rattle.mk_base.proofs.Lists.{none_some, append_nil, below_get, at_in, in_filter, filter_in, filter_append, in_range, range_in}
use Rattle.mk_plan.specs.declared.Plan.{Plan}
use Rattle.mk_plan.specs.declared.Item.{Item}
use Rattle.mk_plan.specs.declared.Message.{Message}
use Rattle.mk_plan.specs.declared.Entry.{Entry}
use Rattle.mk_plan.specs.declared.Entry.TheVariants.{Sent, Got}
use Rattle.mk_plan.specs.Plans.{sim_count}
use Rattle.mk_plan.specs.Journals.{Arrival, arrivals, view}
use Rattle.mk_sched.specs.Cores.{CoreState}
use Rattle.mk_sched.specs.Answers.{open_id}
use Rattle.mk_record_replay.specs.Replays.{messages_from}
use Rattle.mk_record_replay.specs.Orders.{Drawing, draw_step, number_after, candidates, all_left, has_left, after_draw, chosen, drawn, next_number, next_sim, IsInOrder, SameMessages}
use Rattle.mk_record_replay.specs.inner.Rounds.{IsBetween, AreWaiting, next_among, may_be_next, is_some_left}
use Rattle.mk_sched.proofs.Pushed.{last_or_before}
use Rattle.mk_record_replay.proofs.Pushing.{got_is}
use Rattle.mk_record_replay.proofs.Counting.{id_of_turn}
use Rattle.mk_base.proofs.Counts.{below_or_not, less_test, not_less_self}
use Rattle.mk_base.proofs.Items.{fold_push, not_empty, range_more, filter_same}

module _ (P : Plan) (A : List Arrival) where
  journal_drawn : (D : Drawing) (J : List Entry) → (fold (draw_step P A) D J).journal ≡ D.journal ++ J
  journal_drawn D [] = sym (append_nil D.journal)
  journal_drawn D (Sent s item ∷ J) = journal_drawn (draw_step P A D (Sent s item)) J ∙ append_assoc D.journal (Sent s item ∷ []) J
  journal_drawn D (Got s m ∷ J) = journal_drawn (draw_step P A D (Got s m)) J ∙ append_assoc D.journal (Got s m ∷ []) J

  module _ (N : ℕ) where
    begun : Drawing
    begun = record { number = N; journal = [] }

    number_sent : (J : List Entry) (s : SimNo) (item : Item) → number_after P A N (J ++ Sent s item ∷ []) ≡ number_after P A N J
    number_sent J s item = ap (λ (D : Drawing). D.number) (fold_push (draw_step P A) (record { number = N; journal = [] }) J (Sent s item))

    pub number_got : (J : List Entry) (s : SimNo) (m : Message) → number_after P A N (J ++ Got s m ∷ []) ≡ after_draw (candidates P A J) (number_after P A N J)
    number_got J s m = ap (λ (D : Drawing). D.number) (fold_push (draw_step P A) (record { number = N; journal = [] }) J (Got s m))
        ∙ ap (λ (H : List Entry). after_draw (candidates P A H) (number_after P A N J)) (journal_drawn (record { number = N; journal = [] }) J)

    pub order_first : IsInOrder P A N []
    order_first H s m more q = absurd (not_empty H more (Got s m) q)

    order_sent : (J : List Entry) (s : SimNo) (item : Item) → IsInOrder P A N J → IsInOrder P A N (J ++ Sent s item ∷ [])
    order_sent J s item h H t m more q = elim (last_or_before J (Sent s item) H (Got t m) more q) [
      | inl z ↦ absurd (sent_not_got z.1)
      | inr z ↦ h H t m z.0 z.1
    ]
      where
        sent_not_got : Sent s item ≡ Got t m → ⊥
        sent_not_got e = cc

    pub order_got : (J : List Entry) (s : SimNo) (m : Message) → IsInOrder P A N J → next_sim P A N J ≡ Some s.0 → IsInOrder P A N (J ++ Got s m ∷ [])
    order_got J s m h next H t n more q = elim (last_or_before J (Got s m) H (Got t n) more q) [
      | inl z ↦ subst (λ (K : List Entry). next_sim P A N K ≡ Some t.0) z.0 (next ∙ ap (λ (u : SimNo). Some u.0) (same_sim z.1))
      | inr z ↦ h H t n z.0 z.1
    ]
      where
        same_sim : Got s m ≡ Got t n → s ≡ t
        same_sim e = cc

    -- what is sent draws nothing
    pub order_more : (more J : List Entry) (x : ℕ) → arrivals more ≡ [] → IsInOrder P A N J → x ≡ number_after P A N J → IsInOrder P A N (J ++ more) × (x ≡ number_after P A N (J ++ more))
    order_more [] J x none h e = (subst (IsInOrder P A N) (sym (append_nil J)) h, e ∙ ap (number_after P A N) (sym (append_nil J)))
    order_more (Sent s item ∷ more) J x none h e =
        subst (λ (K : List Entry). IsInOrder P A N K × (x ≡ number_after P A N K)) (append_assoc J (Sent s item ∷ []) more) (order_more more (J ++ Sent s item ∷ []) x none (order_sent J s item h) (e ∙ sym (number_sent J s item)))
    order_more (Got s m ∷ more) J x none h e = absurd (some_left none)
      where
        some_left : arrivals (Got s m ∷ more) ≡ [] → ⊥
        some_left q = cc

-- ---- whose message is next, as the lists of messages say it

some_not : (n : ℕ) → not (suc n == 0) ≡ true
some_not n = elim (suc n == 0) as (λ b. (suc n == 0) ≡ b → not b ≡ true) [ true ↦ λ e. absurd (let z : suc n ≡ 0 = eqb-true (suc n) 0 e in omega (arith, z)) | false ↦ λ e. refl ] refl

-- there is more where something was added
more_left : (g l : List Message) → not (length l == 0) ≡ nat_lt (length g) (length (g ++ reverse l))
more_left g [] = sym (ap (λ (m : List Message). nat_lt (length g) (length m)) (append_nil g) ∙ not_less_self (length g))
more_left g (m ∷ l) =
    let count : length (g ++ reverse (m ∷ l)) ≡ length g + suc (length l) = length-append g (reverse (m ∷ l)) ∙ ap (λ n. length g + n) (length-reverse (m ∷ l)) in
    some_not (length l) ∙ sym (less_test (length g) (length (g ++ reverse (m ∷ l))) (omega (arith, count)))

module _ (A : List Arrival) (P : Plan) (J : List Entry) (waiting : List (List Message)) (lists : AreWaiting (sim_count P) A (arrivals J) waiting) where
  left_is : (i : ℕ) → i < sim_count P → is_some_left (slice_get waiting i) ≡ has_left A J i
  left_is i low =
      let t = below_get waiting i (subst (λ n. i < n) (sym lists.all) low) in
      let left : List Message = t.0 in
      ap is_some_left t.1 ∙ more_left (messages_from (arrivals J) i) left ∙ ap (λ (m : List Message). nat_lt (length (messages_from (arrivals J) i)) (length m)) (sym (lists.each i left t.1))
      ∙ ap (λ (m : List Message). nat_lt (length m) (length (messages_from A i))) (sym (got_is J i))

  none_within : all_left P A J ≡ [] → (i : ℕ) → i < sim_count P → messages_from (arrivals J) i ≡ messages_from A i
  none_within none i low =
      let t = below_get waiting i (subst (λ n. i < n) (sym lists.all) low) in
      nothing t.0 (lists.each i t.0 t.1) (sym (ap is_some_left t.1) ∙ left_is i low ∙ not_there (has_left A J i) refl)
    where
      not_there : (b : Bool) → has_left A J i ≡ b → has_left A J i ≡ false
      not_there true e = absurd (subst (IsIn i) none (filter_in (has_left A J) i (range_with_len 0 (sim_count P)) (range_in i 0 (sim_count P) (omega arith) (omega (arith, low))) e))
      not_there false e = e

      nothing : (left : List Message) → messages_from A i ≡ messages_from (arrivals J) i ++ reverse left → not (length left == 0) ≡ false → messages_from (arrivals J) i ≡ messages_from A i
      nothing [] e h = sym (e ∙ append_nil (messages_from (arrivals J) i))
      nothing (m ∷ left) e h = absurd (true≢false (sym (some_not (length left)) ∙ h))

  -- where nobody has a message left, all were given
  pub none_left : all_left P A J ≡ [] → SameMessages A (arrivals J)
  none_left none i = elim (below_or_not i (sim_count P)) [ inl low ↦ none_within none i low | inr far ↦ lists.beyond i far ]

module _ (A : List Arrival) (N : ℕ) (core : CoreState) (waiting : List (List Message)) (x : ℕ) (between : IsBetween A N core waiting x) where
  abbrev J : List Entry
  J = core.entries

  abbrev P : Plan
  P = core.plan

  range_is : range_with_len 0 (length waiting) ≡ range_with_len 0 (sim_count P)
  range_is = ap (range_with_len 0) between.lists.all

  pub candidates_are : next_among false core waiting (length waiting) ≡ candidates P A J
  candidates_are = ap (filter (may_be_next false core waiting)) range_is ∙ filter_same (may_be_next false core waiting) (λ i. is_some ((view P J).open_at i) && has_left A J i) (range_with_len 0 (sim_count P))
      (λ i m. ap (λ b. b && is_some_left (slice_get waiting i)) (id_of_turn core i) ∙ ap (λ b. is_some ((view P J).open_at i) && b) (left_is A P J waiting between.lists i (let r = in_range i 0 (sim_count P) m in omega (arith, r.1))))

  pub all_are : next_among true core waiting (length waiting) ≡ all_left P A J
  all_are = ap (filter (may_be_next true core waiting)) range_is ∙ filter_same (may_be_next true core waiting) (has_left A J) (range_with_len 0 (sim_count P))
      (λ i m. left_is A P J waiting between.lists i (let r = in_range i 0 (sim_count P) m in omega (arith, r.1)))

  -- the simulator that the lists and the number say is the one that is next
  pub next_is : (s : Option ℕ) → s ≡ chosen (next_number x) (next_among false core waiting (length waiting)) (next_among true core waiting (length waiting)) → s ≡ next_sim P A N J
  next_is s e = e ∙ ap (λ n. chosen (next_number n) (next_among false core waiting (length waiting)) (next_among true core waiting (length waiting))) between.drawn
      ∙ ap (λ (cs : List ℕ). chosen (next_number (number_after P A N J)) cs (next_among true core waiting (length waiting))) candidates_are
      ∙ ap (λ (ls : List ℕ). chosen (next_number (number_after P A N J)) (candidates P A J) ls) all_are

  pub number_is : (y : ℕ) → y ≡ after_draw (next_among false core waiting (length waiting)) x → y ≡ after_draw (candidates P A J) (number_after P A N J)
  number_is y e = e ∙ ap (λ (cs : List ℕ). after_draw cs x) candidates_are ∙ ap (after_draw (candidates P A J)) between.drawn

-- ---- what is chosen is there

none_first : (xs : List ℕ) → slice_get xs 0 ≡ None → xs ≡ []
none_first [] e = refl
none_first (x ∷ xs) e = absurd (none_some (sym e))

rest_below : (a b : ℕ) → a % suc b < suc b
rest_below a b = omega arith

pub chosen_none : (n : ℕ) (cs left : List ℕ) → chosen n cs left ≡ None → left ≡ []
chosen_none n [] left e = none_first left e
chosen_none n (c ∷ cs) left e = let t = below_get (c ∷ cs) (drawn n % suc (length cs)) (rest_below (drawn n) (length cs)) in absurd (none_some (sym e ∙ t.1))

pub chosen_some : (n : ℕ) (cs left : List ℕ) (s : ℕ) → chosen n cs left ≡ Some s → IsIn s cs ⊎ IsIn s left
chosen_some n [] left s e = inr (at_in s left 0 e)
chosen_some n (c ∷ cs) left s e = inl (at_in s (c ∷ cs) (drawn n % suc (length cs)) e)

pub chosen_waits : (core : CoreState) (waiting : List (List Message)) (n s : ℕ) → Some s ≡ chosen n (next_among false core waiting (length waiting)) (next_among true core waiting (length waiting))
    → (s < length waiting) × (is_some_left (slice_get waiting s) ≡ true)
chosen_waits core waiting n s e = elim (chosen_some n (next_among false core waiting (length waiting)) (next_among true core waiting (length waiting)) s (sym e)) [ inl m ↦ among false m | inr m ↦ among true m ]
  where
    among : (any : Bool) → IsIn s (next_among any core waiting (length waiting)) → (s < length waiting) × (is_some_left (slice_get waiting s) ≡ true)
    among any m =
        let t = in_filter (may_be_next any core waiting) s (range_with_len 0 (length waiting)) m in
        let r = in_range s 0 (length waiting) t.0 in
        (omega (arith, r.1), (and_parts (any || is_some (open_id core s)) (is_some_left (slice_get waiting s)) t.1).1)

-- ---- one simulator more

pub among_more : (any : Bool) (core : CoreState) (waiting : List (List Message)) (k : ℕ) (messages : List Message) (sims new : List ℕ) → slice_get waiting k ≡ Some messages → sims ≡ next_among any core waiting k
    → new ≡ sims ++ (if (any || is_some (open_id core k)) && not (length messages == 0) then (k ∷ []) else []) → new ≡ next_among any core waiting (k + 1)
among_more any core waiting k messages sims new there before after =
    let p : ℕ → Bool = may_be_next any core waiting in
    let test : p k ≡ ((any || is_some (open_id core k)) && not (length messages == 0)) = ap (λ o. (any || is_some (open_id core k)) && is_some_left o) there in
    let range : range_with_len 0 (k + 1) ≡ range_with_len 0 k ++ k ∷ [] = ap (range_with_len 0) (let e : k + 1 ≡ suc k = omega arith in e) ∙ range_more 0 k ∙ ap (λ n. range_with_len 0 k ++ n ∷ []) (let e : 0 + k ≡ k = omega arith in e) in
    after ∙ ap (λ l. l ++ (if (any || is_some (open_id core k)) && not (length messages == 0) then (k ∷ []) else [])) before
    ∙ ap (λ b. next_among any core waiting k ++ (if b then (k ∷ []) else [])) (sym test)
    ∙ sym (ap (filter p) range ∙ filter_append p (range_with_len 0 k) (k ∷ []))
