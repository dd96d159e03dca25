-- The parts of a report, entry by entry, and the report that they make.
use Rattle.std.proofs.Common.{Result, Ok, Err, OnOk, ◌≡◌, ℕ, zero, suc, ◌+◌, ◌-◌, ◌^◌, ◌<◌, ◌≤◌, true, false, cond, List, [], ◌∷◌, ◌++◌, length, flat_map, filter, Option, Some, None, slice_get, slice_set, get_or, All, refl, sym, ap, ◌∙◌, subst, length-append, inl, inr, arith}
use Rattle.std.specs.List.{cons_option}
use Rattle.std.proofs.lemmas.Bool.{cases_eq}
use Rattle.mk_base.specs.declared.SimNo.{SimNo}
use Rattle.mk_base.proofs.Lists.{some_same, get_is, below_get, append_nil, filter_append, flat_map_append, length_set, set_here, set_else}
use Rattle.mk_plan.specs.declared.Item.{Item}
use Rattle.mk_plan.specs.declared.Message.{Message}
use Rattle.mk_plan.specs.declared.Entry.{Entry}
use Rattle.mk_plan.specs.declared.Entry.TheVariants.{Sent, Got}
use Rattle.mk_plan.specs.Journals.{sent, sent_to}
use Rattle.mk_plan.specs.Report.{line_of, is_step, steps_in}
use Rattle.mk_record_report.specs.declared.parts.Part.{Part}
use Rattle.mk_record_report.specs.inner.Parts.{IsPart, AreParts, step_count}
use Rattle.mk_base.proofs.Items.{get_at_place}
use Rattle.mk_plan.proofs.Sending.{sent_here, sent_away, sent_push}

-- an entry that sends nothing to the first simulators leaves their parts
pub left_alone : (count : ℕ) (J : List Entry) (e : Entry) (parts : List Part) → ((i : ℕ) → i < count → sent (e ∷ []) i ≡ []) → AreParts count J parts → AreParts count (J ++ e ∷ []) parts
left_alone count J e parts nothing are = record {
  all = are.all;
  each = λ i part at. subst (IsPart part) (sym (sent_push J e i ∙ ap (λ l. sent J i ++ l) (nothing i (subst (λ n. i < n) are.all (get_is parts i part at).0)) ∙ append_nil (sent J i))) (are.each i part at);
}

pub left_by_message : (count : ℕ) (J : List Entry) (s : SimNo) (m : Message) (parts : List Part) → AreParts count J parts → AreParts count (J ++ Got s m ∷ []) parts
left_by_message count J s m parts are = left_alone count J (Got s m) parts (λ i low. refl) are

pub left_by_stranger : (count : ℕ) (J : List Entry) (s : SimNo) (item : Item) (parts : List Part) → length parts ≤ s.0 → AreParts count J parts → AreParts count (J ++ Sent s item ∷ []) parts
left_by_stranger count J s item parts past are = left_alone count J (Sent s item) parts (λ i low. sent_away s item i (λ e. absurd (omega (arith, past, low, are.all, e)))) are

pub more_steps : (items : List Item) (item : Item) → length (steps_in (items ++ item ∷ [])) ≡ length (steps_in items) + step_count item
more_steps items item = ap length (filter_append is_step items (item ∷ [])) ∙ length-append (steps_in items) (filter is_step (item ∷ [])) ∙ ap (λ n. length (steps_in items) + n) (elim (is_step item) as (λ b. length (cond b (item ∷ []) []) ≡ cond b 1 0) [ true ↦ refl | false ↦ refl ])

-- an item more makes the part of its simulator longer
grown : (p q : Part) (items : List Item) (item : Item) → IsPart p items → q.lines.items ≡ p.lines.items ++ line_of item → q.steps ≡ p.steps + step_count item → IsPart q (items ++ item ∷ [])
grown p q items item is lines steps = record {
  lines = lines ∙ ap (λ l. l ++ line_of item) is.lines ∙ sym (flat_map_append line_of items (item ∷ []) ∙ ap (λ l. flat_map line_of items ++ l) (append_nil (line_of item)));
  steps = steps ∙ ap (λ n. n + step_count item) is.steps ∙ sym (more_steps items item);
}

pub put_in : (count : ℕ) (J : List Entry) (s : SimNo) (item : Item) (parts : List Part) (p q : Part) → slice_get parts s.0 ≡ Some p → q.lines.items ≡ p.lines.items ++ line_of item → q.steps ≡ p.steps + step_count item → AreParts count J parts
    → AreParts count (J ++ Sent s item ∷ []) (slice_set parts s.0 q)
put_in count J s item parts p q get_at_place lines steps are = record {
  all = length_set parts s.0 q ∙ are.all;
  each = λ i r at. elim (cases_eq i s.0) [
    | inl e ↦
        let mine : r ≡ q = some_same (sym at ∙ ap (λ n. slice_get (slice_set parts s.0 q) n) e ∙ set_here parts s.0 q p get_at_place) in
        let longer : IsPart q (sent (J ++ Sent s item ∷ []) s.0) = subst (IsPart q) (sym (sent_push J (Sent s item) s.0 ∙ ap (λ l. sent J s.0 ++ l) (sent_here s item))) (grown p q (sent J s.0) item (are.each s.0 p get_at_place) lines steps) in
        subst (λ (n : ℕ). IsPart r (sent (J ++ Sent s item ∷ []) n)) (sym e) (subst (λ (t : Part). IsPart t (sent (J ++ Sent s item ∷ []) s.0)) (sym mine) longer)
    | inr n ↦
        let same : slice_get parts i ≡ Some r = sym (set_else parts s.0 i q n) ∙ at in
        subst (IsPart r) (sym (sent_push J (Sent s item) i ∙ ap (λ l. sent J i ++ l) (sent_away s item i n) ∙ append_nil (sent J i))) (are.each i r same)
  ];
}

pub few_steps : (J : List Entry) (i : ℕ) → length (steps_in (sent J i)) ≤ length J
few_steps [] i = omega arith
few_steps (e ∷ J) i = go (sent_to i e) (few_steps J i)
  where
    go : (o : Option Item) → length (steps_in (sent J i)) ≤ length J → length (steps_in (cons_option o (sent J i))) ≤ suc (length J)
    go None h = omega (arith, h)
    go (Some item) h = elim (is_step item) as (λ b. length (cond b (item ∷ steps_in (sent J i)) (steps_in (sent J i))) ≤ suc (length J)) [ true ↦ omega (arith, h) | false ↦ omega (arith, h) ]

-- a part counts no more Steps than there are entries
pub steps_within : (count n : ℕ) (J : List Entry) (parts : List Part) → AreParts count J parts → length J ≤ n → n < 2 ^ 64 - 1 → All (λ (p : Part). p.steps < 2 ^ 64 - 1) parts
steps_within count n J parts are most low i d inside =
    let t = below_get parts i inside in
    let here : get_or parts i d ≡ t.0 = get_at parts i t.0 d t.1 in
    let is : t.0.steps ≡ length (steps_in (sent J i)) = (are.each i t.0 t.1).steps in
    subst (λ (p : Part). p.steps < 2 ^ 64 - 1) (sym here) (subst (λ k. k < 2 ^ 64 - 1) (sym is) (let few = few_steps J i in omega (arith, few, most, low)))
  where
    get_at : (xs : List Part) (k : ℕ) (x d : Part) → slice_get xs k ≡ Some x → get_or xs k d ≡ x
    get_at [] k x d e = cc
    get_at (y ∷ ys) zero x d e = some_same e
    get_at (y ∷ ys) (suc k) x d e = get_at ys k x d e

pub put_if_ok : {E : Type 0} (r : Result (Unit {0}) E) (count : ℕ) (J : List Entry) (s : SimNo) (item : Item) (parts : List Part) (p q : Part) → slice_get parts s.0 ≡ Some p → OnOk r (q.lines.items ≡ p.lines.items ++ line_of item)
    → OnOk r (q.steps ≡ p.steps + step_count item) → AreParts count J parts → OnOk r (AreParts count (J ++ Sent s item ∷ []) (slice_set parts s.0 q))
put_if_ok (Ok u) count J s item parts p q at lines steps are = put_in count J s item parts p q at lines steps are
put_if_ok (Err e) count J s item parts p q at lines steps are = tt
