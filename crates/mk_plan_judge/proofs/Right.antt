-- What stands of right messages.
use Rattle.std.proofs.Common.{◌≡◌, ℕ, ℤ, Bool, true, false, cond, not, ◌||◌, ◌&&◌, nat_le, ◌==◌, int_le, int_lt, List, [], ◌∷◌, Option, Some, None, option_map, option_and_then, unwrap_or, refl, sym, ap, ◌∙◌, ◌⊎◌, inl, inr, arith, true≢false, eqb-true, FitsSigned}
use Rattle.std.proofs.lemmas.Int.{ints}
use Rattle.std.specs.Int.{w64}
use Rattle.std.specs.Option.{ForSome}
use Rattle.std.specs.List.{list_any}
use Rattle.mk_base.specs.declared.SimKind.{SimKind}
use Rattle.mk_base.specs.declared.tier.Tier.{Tier}
use Rattle.mk_base.specs.declared.json.Json.{Json}
use Rattle.mk_base.specs.Lists.{IsIn}
use Rattle.mk_base.specs.Tiers.{latest_time}
use Rattle.mk_base.specs.Trees.{is_null, whole_in, is_object, is_whole, is_datum, nesting, value_depth}
use Rattle.mk_base.proofs.Lists.{passes_some, none_some}
use Rattle.mk_plan.specs.declared.Plan.{Plan}
use Rattle.mk_plan.specs.declared.Want.{Want}
use Rattle.mk_plan.specs.declared.Cause.TheVariants.{Wrong}
use Rattle.mk_plan.specs.declared.Message.TheVariants.{Success}
use Rattle.mk_plan.specs.declared.Place.TheVariants.{Stepping, Fetching}
use Rattle.mk_plan.specs.Plans.{kind_of, is_time_based}
use Rattle.mk_plan.specs.Turns.{first_cause, wrong, wrong_next, wrong_data, wanted, is_number, is_output_time, holds_of, time_in, part_for, value_for}
use Rattle.mk_base.proofs.Bools.{neither_holds, not_false}

-- where there is no cause, each test fails
three_fail : (a b c : Bool) (k l m : ℕ) → first_cause ((a, k) ∷ (b, l) ∷ (c, m) ∷ []) ≡ None → (a ≡ false) × (b ≡ false) × (c ≡ false)
three_fail true b c k l m e = absurd (none_some (sym e))
three_fail false true c k l m e = absurd (none_some (sym e))
three_fail false false true k l m e = absurd (none_some (sym e))
three_fail false false false k l m e = (refl, refl, refl)

five_fail : (a b c d f : Bool) (k l m n o : ℕ) → first_cause ((a, k) ∷ (b, l) ∷ (c, m) ∷ (d, n) ∷ (f, o) ∷ []) ≡ None → (a ≡ false) × (d ≡ false) × (f ≡ false)
five_fail true b c d f k l m n o e = absurd (none_some (sym e))
five_fail false true c d f k l m n o e = absurd (none_some (sym e))
five_fail false false true d f k l m n o e = absurd (none_some (sym e))
five_fail false false false true f k l m n o e = absurd (none_some (sym e))
five_fail false false false false true k l m n o e = absurd (none_some (sym e))
five_fail false false false false false k l m n o e = (refl, refl, refl)

either_true : (a b : Bool) → (a || b) ≡ true → (a ≡ true) ⊎ (b ≡ true)
either_true true b e = inl refl
either_true false b e = inr e

whole_not_null : (t : Json) (n : ℤ) → whole_in t ≡ Some n → is_null t ≡ false
whole_not_null t n e = grind arith

-- a number in range
number_fits : (n low : ℤ) → FitsSigned w64 low → int_le n low ≡ false → int_le n latest_time ≡ true → FitsSigned w64 n
number_fits n low fits above below = grind (arith, ints)

moment_fits : (n : ℤ) → is_output_time n ≡ true → FitsSigned w64 n
moment_fits n e = grind (arith, ints)

abbrev is_up_to : ℤ → Json → Bool
is_up_to bound content = is_number (λ n. int_le n bound) content

number_is : (test : ℤ → Bool) (t : Json) (n : ℤ) → whole_in t ≡ Some n → is_number test t ≡ test n
number_is test t n e = ap (λ (o : Option ℤ). unwrap_or (option_map test o) false) e

-- where the reply to a Step is right, its content is null or a number that fits in 64 bits
pub right_next_fits : (kind : SimKind) (x : Tier) (content : Json) → FitsSigned w64 x.time → wrong_next kind x content ≡ None → ForSome (whole_in content) (λ n. FitsSigned w64 n)
right_next_fits kind x content fits right n is = number_fits n x.time fits later latest
  where
    failed : (not (is_null content || is_up_to latest_time content) ≡ false) × ((is_null content && is_time_based kind) ≡ false) × (is_up_to x.time content ≡ false)
    failed = three_fail (not (is_null content || is_up_to latest_time content)) (is_null content && is_time_based kind) (is_up_to x.time content) 2 4 3 right

    latest : int_le n latest_time ≡ true
    latest = elim (either_true (is_null content) (is_up_to latest_time content) (not_false _ failed.0)) [
      | inl null ↦ absurd (true≢false (sym null ∙ whole_not_null content n is))
      | inr number ↦ sym (number_is (λ m. int_le m latest_time) content n is) ∙ number
    ]

    later : int_le n x.time ≡ false
    later = sym (number_is (λ m. int_le m x.time) content n is) ∙ failed.2

abbrev some_such : (Json → Bool) → List Want → (Want → Option Json) → Bool
some_such test wants found = list_any (λ w. holds_of (λ t. not (test t)) (found w)) wants

-- the tests of data that fail where it is right
data_tests : (wants : List Want) (x : Tier) (content : Json) → wrong_data wants x content ≡ None
    → ((not (is_object content) || holds_of (λ t. not (is_number is_output_time t)) (time_in content)) ≡ false) × (some_such is_whole wants (value_for content) ≡ false) × (some_such (λ t. nat_le (nesting t) value_depth) wants (value_for content) ≡ false)
data_tests wants x content right = five_fail (not (is_object content) || holds_of (λ t. not (is_number is_output_time t)) (time_in content)) (holds_of (is_number (λ n. int_lt n x.time)) (time_in content))
    (some_such is_object wants (part_for content)) (some_such is_whole wants (value_for content)) (some_such (λ t. nat_le (nesting t) value_depth) wants (value_for content)) 5 6 5 7 5 right

-- where the reply to a GetData is right, it gives no output time or one that fits in 64 bits
pub right_output_time_fits : (wants : List Want) (x : Tier) (content : Json) → wrong_data wants x content ≡ None → ForSome (option_and_then whole_in (time_in content)) (λ n. FitsSigned w64 n)
right_output_time_fits wants x content right n is = by_time (time_in content) (neither_holds (not (is_object content)) (holds_of (λ t. not (is_number is_output_time t)) (time_in content)) (data_tests wants x content right).0).1 is
  where
    by_time : (t : Option Json) → holds_of (λ t. not (is_number is_output_time t)) t ≡ false → option_and_then whole_in t ≡ Some n → FitsSigned w64 n
    by_time None h e = absurd (none_some e)
    by_time (Some t) h e = moment_fits n (sym (number_is is_output_time t n e) ∙ not_false _ h)

-- where the reply to a GetData is right, each value that it gives for what is asked is one that a
-- simulator may give
pub right_value_is_datum : (wants : List Want) (x : Tier) (content : Json) (w : Want) (v : Json) → wrong_data wants x content ≡ None → IsIn w wants → value_for content w ≡ Some v → is_datum v ≡ true
right_value_is_datum wants x content w v right m is = both (is_whole v) (nat_le (nesting v) value_depth) (passed is_whole (data_tests wants x content right).1) (passed (λ t. nat_le (nesting t) value_depth) (data_tests wants x content right).2)
  where
    both : (a b : Bool) → a ≡ true → b ≡ true → (a && b) ≡ true
    both a b p q = rw (p, q) refl

    passed : (test : Json → Bool) → some_such test wants (value_for content) ≡ false → test v ≡ true
    passed test none = elim (test v) as (λ b. test v ≡ b → b ≡ true) [
      | true ↦ λ e. refl
      | false ↦ λ e. let here : holds_of (λ t. not (test t)) (value_for content w) ≡ true = ap (holds_of (λ t. not (test t))) is ∙ ap not e in
          absurd (true≢false (sym (passes_some (λ w. holds_of (λ t. not (test t)) (value_for content w)) w wants m here) ∙ none))
    ] refl

-- a right success reply to the open Step
pub right_step_reply : (P : Plan) (i : ℕ) (x : Tier) (id asks n : ℕ) (content : Json) → wrong P i (Stepping x id asks) (Success n content) ≡ None → (n ≡ id) × (wrong_next (kind_of P i) x content ≡ None)
right_step_reply P i x id asks n content right = elim (n == id) as (λ b. (n == id) ≡ b → cond b (wrong_next (kind_of P i) x content) (Some (Wrong 1)) ≡ None → (n ≡ id) × (wrong_next (kind_of P i) x content ≡ None)) [
  | true ↦ λ e h. (eqb-true _ _ e, h)
  | false ↦ λ e h. absurd (none_some (sym h))
] refl right

-- a right success reply to the open GetData
pub right_data_reply : (P : Plan) (i : ℕ) (x : Tier) (id n : ℕ) (content : Json) → wrong P i (Fetching x id) (Success n content) ≡ None → (n ≡ id) × (wrong_data (wanted P i) x content ≡ None)
right_data_reply P i x id n content right = elim (n == id) as (λ b. (n == id) ≡ b → cond b (wrong_data (wanted P i) x content) (Some (Wrong 1)) ≡ None → (n ≡ id) × (wrong_data (wanted P i) x content ≡ None)) [
  | true ↦ λ e h. (eqb-true _ _ e, h)
  | false ↦ λ e h. absurd (none_some (sym h))
] refl right
