-- What sorted inlets give one after the other is what the connections give, put in order.
use Rattle.std.proofs.Common.{◌≡◌, ◌⊎◌, inl, inr, ℕ, ◌+◌, ◌<◌, ◌≤◌, List, [], ◌∷◌, ◌++◌, length, take, get_or, map, filter, flat_map, fold, Option, Some, None, option_map, refl, sym, ap, subst, ◌∙◌, ◌==◌}
use Rattle.std.specs.Prelude.{option_to_list}
use Rattle.std.specs.Cmp.{IsTotalOrder}
use Rattle.std.specs.List.{AllByRecursion}
use Rattle.std.specs.List.Sorted.{IsStrictlySortedBy}
use Rattle.std.specs.declared.cmp.Ordering.{Ordering}
use Rattle.std.specs.declared.cmp.Ordering.TheVariants.{Less, Equal, Greater}
use Rattle.std.proofs.lemmas.List.{take_all, take_more}
use Rattle.mk_base.specs.declared.tier.Tier.{Tier}
use Rattle.mk_base.specs.Lists.{IsIn, put, placed}
use Rattle.std.specs.Prelude.{◌||◌, unwrap_or, pos, true, Bool}
use Rattle.std.specs.List.{list_any}
use Rattle.std.proofs.Common.{arith}
use Rattle.mk_base.specs.Tiers.{IsUpTo, moment}
use Rattle.mk_base.proofs.TierOrder.{up_to_trans}
use Rattle.mk_base.proofs.Lists.{in_filter, passes_some, below_get}
use Rattle.mk_buffers.specs.Marking.{asks_of}
use Rattle.mk_base.proofs.Lists.{in_flat_map, flat_map_in, flat_map_append, append_nil, in_either}
use Rattle.mk_plan.specs.declared.Plan.{Plan}
use Rattle.mk_plan.specs.declared.Conn.{Conn}
use Rattle.mk_plan.specs.declared.Input.{Input}
use Rattle.mk_plan.specs.Plans.{owner}
use Rattle.mk_plan.specs.Deliveries.{Gift, Supply}
use Rattle.mk_plan.specs.Inputs.{input_order, put_all, pick, gift_input, connection_input, connections_to, inputs}
use Rattle.mk_buffers.specs.declared.inlets.Inlet.{Inlet}
use Rattle.mk_buffers.specs.declared.buffers.Buffers.{Buffers}
use Rattle.mk_buffers.specs.Listing.{inlet_order}
use Rattle.mk_buffers.specs.Held.{input_of}
use Rattle.mk_plan_judge.proofs.Putting.{turned}
use Rattle.mk_plan_judge.proofs.Puts.{all_has, put_from, put_is_in, puts_from, puts_sorted, same_sorted}
use Rattle.mk_order.proofs.Assembled.{last_with, puts_by_last, inputs_total}
use Rattle.mk_order.proofs.GivenValues.{is_for, assemble_given}
use Rattle.mk_buffers.specs.declared.sets.Slot.{Slot}
use Rattle.mk_buffers.specs.Slots.{AnswerGifts}
use Rattle.mk_buffers.specs.inner.Slots.{set_inputs}
use Rattle.mk_buffers.proofs.Slots.{as_input, last_set, last_given}
use Rattle.mk_buffers.specs.Standing.{AreInlets, AreGifts, StandFor, mark_of, given, value_for}
use Rattle.mk_buffers.specs.inner.Standing.{IsAfterStart, HasGathered}
use Rattle.mk_buffers.proofs.Picking.{given_same}

module _ {X : Type 0} where
  module _ (order : X → X → Ordering) (total : IsTotalOrder order) where
    put_old : (x n : X) (ys : List X) → ((y : X) → IsIn y ys → order n y ≡ Equal → n ≡ y) → IsIn x ys → IsIn x (put order n ys)
    put_old x n [] same m = absurd m
    put_old x n (y ∷ ys) same m = by (order n y) refl m (put_old x n ys (λ z r. same z (inr r)))
      where
        by : (o : Ordering) → order n y ≡ o → IsIn x (y ∷ ys) → (IsIn x ys → IsIn x (put order n ys)) → IsIn x (placed o n y ys (put order n ys))
        by Less e m rest = inr m
        by Equal e (inl q) rest = inl (q ∙ sym (same y (inl refl) e))
        by Equal e (inr r) rest = inr r
        by Greater e (inl q) rest = inl q
        by Greater e (inr r) rest = inr (rest r)

    pub puts_in : (all : List X) → ((y z : X) → IsIn y all → IsIn z all → order y z ≡ Equal → y ≡ z) → (x : X) (news xs : List X) → ((y : X) → IsIn y news → IsIn y all) → ((y : X) → IsIn y xs → IsIn y all) → IsIn x news ⊎ IsIn x xs → IsIn x (fold (λ sorted new. put order new sorted) xs news)
    puts_in all same x [] xs f g (inl m) = absurd m
    puts_in all same x [] xs f g (inr m) = m
    puts_in all same x (n ∷ ns) xs f g m = puts_in all same x ns (put order n xs) (λ y r. f y (inr r)) (λ y r. elim (put_from order total y n xs r) [ inl q ↦ subst (λ (z : X). IsIn z all) (sym q) (f n (inl refl)) | inr t ↦ g y t ])
        (elim m [
          | inl r ↦ elim r [ inl q ↦ inr (subst (λ (z : X). IsIn z (put order n xs)) (sym q) (put_is_in order n xs)) | inr t ↦ inl t ]
          | inr r ↦ inr (put_old x n xs (λ y t e. same n y (f n (inl refl)) (g y t) e) r)
        ])

    pub equal_in : (xs : List X) (y z : X) → IsStrictlySortedBy order xs → IsIn y xs → IsIn z xs → order y z ≡ Equal → y ≡ z
    unfolding IsStrictlySortedBy
    equal_in [] y z sorted m n e = absurd m
    equal_in (x ∷ xs) y z sorted (inl q) (inl r) e = q ∙ sym r
    equal_in (x ∷ xs) y z sorted (inl q) (inr n) e = let less : order y z ≡ Less = subst (λ (w : X). order w z ≡ Less) (sym q) (all_has (λ w. order x w ≡ Less) xs z sorted.0 n) in let k : Less ≡ Equal = sym less ∙ e in cc
    equal_in (x ∷ xs) y z sorted (inr m) (inl r) e = let less : order z y ≡ Less = subst (λ (w : X). order w y ≡ Less) (sym r) (all_has (λ w. order x w ≡ Less) xs y sorted.0 m) in let k : Greater ≡ Equal = sym (turned order total y z Less less) ∙ e in cc
    equal_in (x ∷ xs) y z sorted (inr m) (inr n) e = equal_in xs y z sorted.1 m n e

module _ (b : Buffers) (p : Option Tier) (x : Tier) where
  abbrev gives : Inlet → List Input
  gives i = given b i p x

  given_after : (i : Inlet) (v : List ℕ) (l : List Inlet) → AllByRecursion (λ j. inlet_order i j ≡ Less) l → AllByRecursion (λ n. input_order (input_of i v) n ≡ Less) (flat_map gives l)
  given_after i v [] all = tt
  given_after i v (j ∷ js) all = elim (value_for b j p x) as (λ o. AllByRecursion (λ n. input_order (input_of i v) n ≡ Less) (option_to_list (option_map (input_of j) o) ++ flat_map gives js)) [
    | None ↦ given_after i v js all.1
    | Some w ↦ (all.0, given_after i v js all.1)
  ]

  given_sorted : (l : List Inlet) → IsStrictlySortedBy inlet_order l → IsStrictlySortedBy input_order (flat_map gives l)
  unfolding IsStrictlySortedBy
  given_sorted [] sorted = tt
  given_sorted (i ∷ is) sorted = elim (value_for b i p x) as (λ o. IsStrictlySortedBy input_order (option_to_list (option_map (input_of i) o) ++ flat_map gives is)) [
    | None ↦ given_sorted is sorted.1
    | Some v ↦ (given_after i v is sorted.0, given_sorted is sorted.1)
  ]

module _ (P : Plan) (b : Buffers) (S : Supply) (s : ℕ) (l : List Inlet) (p : Option Tier) (x : Tier) (st : StandFor P b S) (are : AreInlets P b s l) (from : (c : Conn) → IsIn c (connections_to P s) → IsUpTo b.marks.least x) (begun : (i : Inlet) → IsIn i l → IsAfterStart b i x) where
  abbrev of_conn : Conn → List Input
  of_conn c = option_to_list (option_map (connection_input P c) (pick P S c p x))

  into : (n : Input) → IsIn n (flat_map (gives b p x) l) → IsIn n (flat_map of_conn (connections_to P s))
  into n m = let i = in_flat_map (gives b p x) n l m in let c = are.each i.0 i.1 in
      flat_map_in of_conn c.0 n (connections_to P s) c.1 (subst (IsIn n) (given_same P b S c.0 i.0 p x st c.2 (from c.0 c.1) (begun i.0 i.1)) i.2)

  out_of : (n : Input) → IsIn n (flat_map of_conn (connections_to P s)) → IsIn n (flat_map (gives b p x) l)
  out_of n m = let c = in_flat_map of_conn n (connections_to P s) m in let i = are.all c.0 c.1 in
      flat_map_in (gives b p x) i.0 n l i.1 (subst (IsIn n) (sym (given_same P b S c.0 i.0 p x st i.2 (from c.0 c.1) (begun i.0 i.1))) c.2)

  in_order : flat_map (gives b p x) l ≡ put_all (flat_map of_conn (connections_to P s)) []
  unfolding IsStrictlySortedBy
  in_order = let sorted = given_sorted b p x l are.sorted in
      same_sorted input_order inputs_total (flat_map (gives b p x) l) (put_all (flat_map of_conn (connections_to P s)) []) sorted (puts_sorted input_order inputs_total (λ n. n) (flat_map of_conn (connections_to P s)) [] tt)
      (λ n m. puts_in input_order inputs_total (flat_map (gives b p x) l) (λ y z k h e. equal_in input_order inputs_total (flat_map (gives b p x) l) y z sorted k h e) n (flat_map of_conn (connections_to P s)) [] out_of (λ y r. absurd r) (inl (into n m)))
      (λ n m. elim (puts_from input_order inputs_total (λ n. n) n (flat_map of_conn (connections_to P s)) [] m) [ inl r ↦ out_of n (subst (λ (y : Input). IsIn y (flat_map of_conn (connections_to P s))) (sym r.2) r.1) | inr r ↦ absurd r ])

  pub gathered_sorted : (ins : List Input) → ins ≡ flat_map (gives b p x) l → IsStrictlySortedBy input_order ins
  unfolding IsStrictlySortedBy
  gathered_sorted ins is = subst (IsStrictlySortedBy input_order) (sym is) (given_sorted b p x l are.sorted)

  each_given : (gs : List Gift) → map (gift_input P) (map (λ (g : Gift). g.given) gs) ≡ map (λ (g : Gift). gift_input P g.given) gs
  each_given [] = refl
  each_given (g ∷ gs) = ap (λ (r : List Input). gift_input P g.given ∷ r) (each_given gs)

  -- the inputs, with what slots give put among them
  pub inputs_are : (slots : List Slot) (all : List Gift) → AreGifts P S all → AnswerGifts P s (mark_of b s) slots all → IsUpTo (mark_of b s) x → (ins out : List Input) → ins ≡ flat_map (gives b p x) l → out ≡ put_all (set_inputs slots p x) ins → out ≡ inputs P S s p x
  inputs_are slots all gifts answer up ins out is done = done ∙ ap (put_all (set_inputs slots p x)) (is ∙ in_order)
      ∙ puts_by_last input_order inputs_total (set_inputs slots p x) (map (gift_input P) (map (λ (g : Gift). g.given) (filter (is_for P s p x) all))) (put_all (flat_map of_conn (connections_to P s)) []) (subst (IsStrictlySortedBy input_order) (is ∙ in_order) (gathered_sorted ins is))
      (λ k. last_set p x k slots ∙ ap (option_map (as_input k)) (answer k p x up) ∙ sym (last_given p x k P s all) ∙ ap (last_with input_order k) (sym (each_given (filter (is_for P s p x) all))))
      ∙ sym (assemble_given P S all (record { by_source = gifts.by_source; sourced = gifts.sourced }) s p x (λ c. pick P S c p x))

-- one inlet after the other
pub gathered_more : (b : Buffers) (l : List Inlet) (n : ℕ) (i : Inlet) (p : Option Tier) (x : Tier) (done new : List Input) → n < length l → i ≡ get_or l n i → HasGathered b (take n l) p x done → (new ≡ done ++ given b i p x) × IsAfterStart b i x → HasGathered b (take (n + 1) l) p x new
gathered_more b l n i p x done new below is so more = record {
  inputs = more.0 ∙ ap (λ (d : List Input). d ++ given b i p x) so.inputs ∙ ap (λ (d : List Input). flat_map (λ j. given b j p x) (take n l) ++ d) (sym (append_nil (given b i p x)))
      ∙ sym (flat_map_append (λ j. given b j p x) (take n l) (i ∷ [])) ∙ ap (flat_map (λ j. given b j p x)) (sym whole);
  begun = λ j m. elim (in_either j (take n l) (i ∷ []) (subst (IsIn j) whole m)) [ inl r ↦ so.begun j r | inr r ↦ elim r [ inl q ↦ subst (λ (k : Inlet). IsAfterStart b k x) (sym q) more.1 | inr t ↦ absurd t ] ];
}
  where
    whole : take (n + 1) l ≡ take n l ++ i ∷ []
    whole = take_more l n i below ∙ ap (λ (j : Inlet). take n l ++ j ∷ []) (sym is)

pub gathered_whole : (b : Buffers) (l m : List Inlet) (n : ℕ) (p : Option Tier) (x : Tier) (ins : List Input) → length m ≤ n → m ≡ l → HasGathered b (take n m) p x ins → HasGathered b l p x ins
gathered_whole b l m n p x ins all is so = subst (λ (k : List Inlet). HasGathered b k p x ins) (take_all n m all ∙ is) so

-- a simulator with connections asks, so the least mark is up to its own
pub from_mark : (P : Plan) (b : Buffers) (S : Supply) (s : ℕ) (x : Tier) → StandFor P b S → s < length P.sims → IsUpTo (mark_of b s) x → (c : Conn) → IsIn c (connections_to P s) → IsUpTo b.marks.least x
from_mark P b S s x st low up c m =
    let k = in_filter (λ (c : Conn). owner P c.to == s) c P.conns m in
    let asks : asks_of P s ≡ true = ap (λ (t : Bool). t || list_any (λ p. p.to.0 == s) P.asyncs) (passes_some (λ c. owner P c.to == s) c P.conns k.0 k.1) in
    let mark = below_get b.marks.marks s (omega (arith, low, st.of_plan.sizes.marks)) in
    up_to_trans b.marks.least (mark_of b s) x (subst (IsUpTo b.marks.least) (sym (ap (λ (o : Option Tier). unwrap_or o (moment (pos 0))) mark.1)) (st.of_plan.least.low s mark.0 (st.of_plan.asking.each s low ∙ ap Some asks) mark.1)) up
