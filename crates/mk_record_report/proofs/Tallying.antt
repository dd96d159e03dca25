-- The tallies of a summary, entry by entry.
use Rattle.std.proofs.Common.{◌≡◌, ℕ, zero, suc, ◌+◌, ◌-◌, ◌^◌, ◌<◌, ◌≤◌, List, [], ◌∷◌, ◌++◌, length, flat_map, Some, slice_get, slice_set, get_or, All, refl, sym, ap, ◌∙◌, subst, length-append, ◌⊎◌, inl, inr, arith}
use Rattle.std.proofs.lemmas.Bool.{cases_eq}
use Rattle.std.proofs.lemmas.List.Sums.{sum_by_push}
use Rattle.mk_base.specs.declared.SimNo.{SimNo}
use Rattle.mk_base.proofs.Lists.{some_same, get_is, below_get, append_nil, flat_map_append, length_set, set_here, set_else}
use Rattle.mk_plan.specs.declared.Item.{Item}
use Rattle.mk_plan.specs.declared.Item.TheVariants.{Step, GetData, Answer, Refuse}
use Rattle.mk_plan.specs.declared.Message.{Message}
use Rattle.mk_plan.specs.declared.Entry.{Entry}
use Rattle.mk_plan.specs.declared.Entry.TheVariants.{Sent, Got}
use Rattle.mk_plan.specs.Journals.{sent}
use Rattle.mk_plan.specs.Report.{steps_in, inputs_of, values_sent}
use Rattle.mk_record_report.specs.declared.tallies.Tally.{Tally}
use Rattle.mk_record_report.specs.inner.Parts.{step_count}
use Rattle.mk_record_report.specs.inner.Summary.{IsTally, AreTallies, all_values, value_count}
use Rattle.mk_record_report.proofs.Parting.{more_steps, few_steps}
use Rattle.mk_plan.proofs.Sending.{sent_here, sent_away, sent_push}

-- an entry that sends nothing to the first simulators leaves their tallies
left_alone : (count : ℕ) (J : List Entry) (e : Entry) (tallies : List Tally) → ((i : ℕ) → i < count → sent (e ∷ []) i ≡ []) → AreTallies count J tallies → AreTallies count (J ++ e ∷ []) tallies
left_alone count J e tallies nothing are = record {
  all = are.all;
  each = λ i tally at. subst (IsTally tally) (sym (sent_push J e i ∙ ap (λ l. sent J i ++ l) (nothing i (subst (λ n. i < n) are.all (get_is tallies i tally at).0)) ∙ append_nil (sent J i))) (are.each i tally at);
}

pub untold_by_message : (count : ℕ) (J : List Entry) (s : SimNo) (m : Message) (tallies : List Tally) → AreTallies count J tallies → AreTallies count (J ++ Got s m ∷ []) tallies
untold_by_message count J s m tallies are = left_alone count J (Got s m) tallies (λ i low. refl) are

pub untold_by_stranger : (count : ℕ) (J : List Entry) (s : SimNo) (item : Item) (tallies : List Tally) → length tallies ≤ s.0 → AreTallies count J tallies → AreTallies count (J ++ Sent s item ∷ []) tallies
untold_by_stranger count J s item tallies past are = left_alone count J (Sent s item) tallies (λ i low. sent_away s item i (λ e. absurd (omega (arith, past, low, are.all, e)))) are

one_more : (item : Item) → length (flat_map inputs_of (item ∷ [])) ≡ value_count item
one_more (Step at ins advance) = ap length (append_nil ins)
one_more (GetData wants) = refl
one_more (Answer id content) = refl
one_more (Refuse id reason) = refl

more_values : (items : List Item) (item : Item) → values_sent (items ++ item ∷ []) ≡ values_sent items + value_count item
more_values items item = ap length (flat_map_append inputs_of items (item ∷ [])) ∙ length-append (flat_map inputs_of items) (flat_map inputs_of (item ∷ [])) ∙ ap (λ n. values_sent items + n) (one_more item)

-- an item more is counted for its simulator
grown : (t u : Tally) (items : List Item) (item : Item) → IsTally t items → u.steps ≡ t.steps + step_count item → u.values ≡ t.values + value_count item → IsTally u (items ++ item ∷ [])
grown t u items item is steps values = record {
  steps = steps ∙ ap (λ n. n + step_count item) is.steps ∙ sym (more_steps items item);
  values = values ∙ ap (λ n. n + value_count item) is.values ∙ sym (more_values items item);
}

pub told_in : (count : ℕ) (J : List Entry) (s : SimNo) (item : Item) (tallies : List Tally) (t u : Tally) → slice_get tallies s.0 ≡ Some t → u.steps ≡ t.steps + step_count item → u.values ≡ t.values + value_count item → AreTallies count J tallies
    → AreTallies count (J ++ Sent s item ∷ []) (slice_set tallies s.0 u)
told_in count J s item tallies t u there steps values are = record {
  all = length_set tallies s.0 u ∙ are.all;
  each = λ i r at. elim (cases_eq i s.0) [
    | inl e ↦
        let mine : r ≡ u = some_same (sym at ∙ ap (λ n. slice_get (slice_set tallies s.0 u) n) e ∙ set_here tallies s.0 u t there) in
        let longer : IsTally u (sent (J ++ Sent s item ∷ []) s.0) = subst (IsTally u) (sym (sent_push J (Sent s item) s.0 ∙ ap (λ l. sent J s.0 ++ l) (sent_here s item))) (grown t u (sent J s.0) item (are.each s.0 t there) steps values) in
        subst (λ (n : ℕ). IsTally r (sent (J ++ Sent s item ∷ []) n)) (sym e) (subst (λ (v : Tally). IsTally v (sent (J ++ Sent s item ∷ []) s.0)) (sym mine) longer)
    | inr n ↦
        let same : slice_get tallies i ≡ Some r = sym (set_else tallies s.0 i u n) ∙ at in
        subst (IsTally r) (sym (sent_push J (Sent s item) i ∙ ap (λ l. sent J i ++ l) (sent_away s item i n) ∙ append_nil (sent J i))) (are.each i r same)
  ];
}

-- a tally counts no more Steps than there are entries
pub tallied_within : (count n : ℕ) (J : List Entry) (tallies : List Tally) → AreTallies count J tallies → length J ≤ n → n < 2 ^ 64 - 1 → All (λ (t : Tally). t.steps < 2 ^ 64 - 1) tallies
tallied_within count n J tallies are most low i d inside =
    let t = below_get tallies i inside in
    let here : get_or tallies i d ≡ t.0 = get_at tallies i t.0 d t.1 in
    let is : t.0.steps ≡ length (steps_in (sent J i)) = (are.each i t.0 t.1).steps in
    subst (λ (p : Tally). p.steps < 2 ^ 64 - 1) (sym here) (subst (λ k. k < 2 ^ 64 - 1) (sym is) (let few = few_steps J i in omega (arith, few, most, low)))
  where
    get_at : (xs : List Tally) (k : ℕ) (x d : Tally) → slice_get xs k ≡ Some x → get_or xs k d ≡ x
    get_at [] k x d e = cc
    get_at (y ∷ ys) zero x d e = some_same e
    get_at (y ∷ ys) (suc k) x d e = get_at ys k x d e

get_push : (ts : List Tally) (t u : Tally) (i : ℕ) → slice_get (ts ++ t ∷ []) i ≡ Some u → (slice_get ts i ≡ Some u) ⊎ (t ≡ u)
get_push [] t u zero e = inr (some_same e)
get_push [] t u (suc i) e = cc
get_push (x ∷ ts) t u zero e = inl e
get_push (x ∷ ts) t u (suc i) e = get_push ts t u i e

is_nothing : (i : ℕ) → IsTally (record { steps = 0; values = 0 }) (sent [] i)
is_nothing i = record { steps = refl; values = refl }

-- one more simulator that was sent nothing
pub untold_more : (n : ℕ) (ts new : List Tally) → new ≡ ts ++ record { steps = 0; values = 0 } ∷ [] → AreTallies n [] ts → AreTallies (n + 1) [] new
untold_more n ts new is are = subst (AreTallies (n + 1) []) (sym is) (record {
  all = length-append ts (record { steps = 0; values = 0 } ∷ []) ∙ ap (λ k. k + 1) are.all;
  each = λ i t at. elim (get_push ts (record { steps = 0; values = 0 }) t i at) [
    | inl there ↦ are.each i t there
    | inr same ↦ subst (λ (u : Tally). IsTally u (sent [] i)) same (is_nothing i)
  ];
})

pub no_values_more : (ts new : List Tally) → new ≡ ts ++ record { steps = 0; values = 0 } ∷ [] → all_values ts ≡ 0 → all_values new ≡ 0
no_values_more ts new is none = ap all_values is ∙ sum_by_push (λ (t : Tally). t.values) ts (record { steps = 0; values = 0 }) ∙ ap (λ n. n + 0) none
