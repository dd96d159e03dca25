-- Where two lists of what was said part.
use Rattle.std.proofs.Common.{◌≡◌, ℕ, zero, suc, ◌+◌, ◌<◌, ◌≤◌, List, [], ◌∷◌, ◌++◌, length, take, drop, fold, get_or, if◌then◌else◌, slice_get, Option, Some, None, ◌⊎◌, inl, inr, refl, sym, ap, ◌∙◌, arith, length-take-le, length-drop, length-append}
use Rattle.std.proofs.Math.Seq.{drop-cons}
use Rattle.std.proofs.lemmas.List.{take_all, take_more, take-append-drop}
use Rattle.mk_base.proofs.Lists.{none_some, some_same, filter_map_append}
use Rattle.mk_plan.specs.declared.Item.{Item}
use Rattle.mk_plan.specs.declared.Item.TheVariants.{Step, GetData, Answer, Refuse}
use Rattle.mk_plan.specs.declared.Message.{Message}
use Rattle.mk_plan.specs.Acts.{Said, Told, Heard}
use Rattle.mk_base.specs.declared.tier.Tier.{Tier}
use Rattle.mk_blame.specs.Talks.{message_in, messages, last_step, step_after, PartByMessages}
use Rattle.mk_blame.specs.declared.verdict.Blamed.{Blamed}
use Rattle.mk_blame.specs.Verdicts.{IsBlamedBy}
use Rattle.mk_blame.specs.inner.Parted.{PartAt, OneEnds, MessagesAlike, BeginsWithStep, is_message}
use Rattle.mk_base.proofs.Items.{fold_push}

pub heard_same : (m n : Message) → Heard m ≡ Heard n → m ≡ n
heard_same m n e = cc

heads : (x y : Said) (xs ys : List Said) → x ∷ xs ≡ y ∷ ys → x ≡ y
heads x y xs ys e = cc

tails : (x y : Said) (xs ys : List Said) → x ∷ xs ≡ y ∷ ys → xs ≡ ys
tails x y xs ys e = cc

none_there : (a : List Said) (x : Said) (us : List Said) → [] ≡ a ++ x ∷ us → ⊥
none_there [] x us e = cc
none_there (y ∷ a) x us e = cc

-- two lists that have different things behind an equal part, and messages behind another one
pub same_place : (a w us vs u v : List Said) (x y : Said) (m n : Message) → a ++ x ∷ us ≡ w ++ Heard m ∷ u → a ++ y ∷ vs ≡ w ++ Heard n ∷ v → (x ≡ y → ⊥) → (m ≡ n) ⊎ ((w ≡ a) × (x ≡ Heard m) × (y ≡ Heard n))
same_place [] [] us vs u v x y m n e f d = inr (refl, heads x (Heard m) us u e, heads y (Heard n) vs v f)
same_place [] (z ∷ w) us vs u v x y m n e f d = absurd (d (heads x z us (w ++ Heard m ∷ u) e ∙ sym (heads y z vs (w ++ Heard n ∷ v) f)))
same_place (z ∷ a) [] us vs u v x y m n e f d = inl (heard_same m n (sym (heads z (Heard m) (a ++ x ∷ us) u e) ∙ heads z (Heard n) (a ++ y ∷ vs) v f))
same_place (z ∷ a) (z' ∷ w) us vs u v x y m n e f d =
    elim (same_place a w us vs u v x y m n (tails z z' (a ++ x ∷ us) (w ++ Heard m ∷ u) e) (tails z z' (a ++ y ∷ vs) (w ++ Heard n ∷ v) f) d) [
      | inl same ↦ inl same
      | inr t ↦ inr ((λ i. sym (heads z z' (a ++ x ∷ us) (w ++ Heard m ∷ u) e) i ∷ t.0 i), t.1, t.2)
    ]

-- where one list is the beginning of the other
ends_alike : (ys w more u v : List Said) (x : Said) (m n : Message) → ys ++ x ∷ more ≡ w ++ Heard m ∷ u → ys ≡ w ++ Heard n ∷ v → m ≡ n
ends_alike [] w more u v x m n e f = absurd (none_there w (Heard n) v f)
ends_alike (z ∷ ys) [] more u v x m n e f = heard_same m n (sym (heads z (Heard m) (ys ++ x ∷ more) u e) ∙ heads z (Heard n) ys v f)
ends_alike (z ∷ ys) (z' ∷ w) more u v x m n e f = ends_alike ys w more u v x m n (tails z z' (ys ++ x ∷ more) (w ++ Heard m ∷ u) e) (tails z z' ys (w ++ Heard n ∷ v) f)

pub one_ends_alike : (xs ys : List Said) → OneEnds xs ys → MessagesAlike xs ys
one_ends_alike xs ys (x, more, inl is) w u v m n e f = ends_alike ys w more u v x m n (sym is ∙ e) f
one_ends_alike xs ys (x, more, inr is) w u v m n e f = sym (ends_alike xs w more v u x n m (sym is ∙ f) e)

longer : (ys more : List Said) (x : Said) → ys ++ x ∷ more ≡ ys → ⊥
longer [] more x e = cc
longer (y ∷ ys) more x e = longer ys more x (tails y y (ys ++ x ∷ more) ys e)

pub one_ends_differ : (xs ys : List Said) → OneEnds xs ys → xs ≡ ys → ⊥
one_ends_differ xs ys (x, more, inl is) e = longer ys more x (sym is ∙ e)
one_ends_differ xs ys (x, more, inr is) e = longer xs more x (sym is ∙ sym e)

equal_alike : (w u v : List Said) (m n : Message) → w ++ Heard m ∷ u ≡ w ++ Heard n ∷ v → m ≡ n
equal_alike [] u v m n e = heard_same m n (heads (Heard m) (Heard n) u v e)
equal_alike (z ∷ w) u v m n e = equal_alike w u v m n (tails z z (w ++ Heard m ∷ u) (w ++ Heard n ∷ v) e)

pub same_alike : (xs ys : List Said) → xs ≡ ys → MessagesAlike xs ys
same_alike xs ys same w u v m n e f = equal_alike w u v m n (sym e ∙ same ∙ f)

-- where two lists part at two things of which not both are messages
pub part_alike : (xs ys : List Said) (number place : ℕ) (at : Option Tier) (p : PartAt xs ys number place at) → ((m n : Message) → p.one ≡ Heard m → p.other ≡ Heard n → ⊥) → MessagesAlike xs ys
part_alike xs ys number place at p none w u v m n e f = elim (same_place p.before w p.more p.more_other u v p.one p.other m n (sym p.first ∙ e) (sym p.second ∙ f) p.differ) [
  | inl same ↦ same
  | inr t ↦ absurd (none m n t.1 t.2)
]

part_of : (a us vs : List Said) (x y : Said) → a ++ x ∷ us ≡ a ++ y ∷ vs → x ≡ y
part_of [] us vs x y e = heads x y us vs e
part_of (z ∷ a) us vs x y e = part_of a us vs x y (tails z z (a ++ x ∷ us) (a ++ y ∷ vs) e)

pub part_differ : (xs ys : List Said) (number place : ℕ) (at : Option Tier) → PartAt xs ys number place at → xs ≡ ys → ⊥
part_differ xs ys number place at p same = p.differ (part_of p.before p.more p.more_other p.one p.other (sym p.first ∙ same ∙ p.second))

-- where two lists part by messages, they do so at one place
pub one_part : (xs ys w z : List Said) (m n k l : Message) → PartByMessages xs ys w m n → PartByMessages xs ys z k l → (w ≡ z) × (m ≡ k) × (n ≡ l)
one_part xs ys w z m n k l p q = elim (same_place z w q.more q.other p.more p.other (Heard k) (Heard l) m n (sym q.first ∙ p.first) (sym q.second ∙ p.second) (λ e. q.differ (heard_same k l e))) [
  | inl same ↦ absurd (p.differ same)
  | inr t ↦ (t.0, sym (heard_same k m t.1), sym (heard_same l n t.2))
]

-- ---- the time of the last Step

told_stays : (item : Item) (at : Tier) → (y : Tier) × (step_after (Some at) (Told item) ≡ Some y)
told_stays (Step x ins advance) at = (x, refl)
told_stays (GetData wants) at = (at, refl)
told_stays (Answer id content) at = (at, refl)
told_stays (Refuse id reason) at = (at, refl)

step_stays : (x : Said) (at : Tier) → (y : Tier) × (step_after (Some at) x ≡ Some y)
step_stays (Heard m) at = (at, refl)
step_stays (Told item) at = told_stays item at

steps_stay : (xs : List Said) (at : Tier) → (y : Tier) × (fold step_after (Some at) xs ≡ Some y)
steps_stay [] at = (at, refl)
steps_stay (x ∷ xs) at = let t = step_stays x at in let u = steps_stay xs t.0 in (u.0, ap (λ (o : Option Tier). fold step_after o xs) t.1 ∙ u.1)

-- before a message there is a Step, where the talk begins with one
pub step_before : (xs w u : List Said) (m : Message) → BeginsWithStep xs → xs ≡ w ++ Heard m ∷ u → (y : Tier) × (last_step w ≡ Some y)
step_before xs [] u m begun is = absurd (none_some ((begun (Heard m) u is).1))
step_before xs (x ∷ w) u m begun is = let t = begun x (w ++ Heard m ∷ u) is in let r = steps_stay w t.0 in (r.0, ap (λ (o : Option Tier). fold step_after o w) t.1 ∙ r.1)

-- ---- the places of a list

taken_of : {X : Type 0} (xs : List X) (k : ℕ) (x : X) → k < length xs → x ≡ get_or xs k x → xs ≡ take k xs ++ x ∷ drop (suc k) xs
taken_of xs k x low is = sym (take-append-drop k xs) ∙ ap (λ l. take k xs ++ l) (drop-cons xs k x low ∙ ap (λ y. y ∷ drop (suc k) xs) (sym is))

length_taken : {X : Type 0} (xs : List X) (k : ℕ) → k ≤ length xs → k ≡ length (take k xs)
length_taken xs k low = sym (length-take-le k xs low)

-- the talks part at this place
pub parts_at : (xs ys : List Said) (k place : ℕ) (at : Option Tier) (x y : Said) → k < length xs → k < length ys → x ≡ get_or xs k x → y ≡ get_or ys k y → take k xs ≡ take k ys → (x ≡ y → ⊥)
    → place ≡ length (messages (take k xs)) → at ≡ last_step (take k xs) → PartAt xs ys k place at
parts_at xs ys k place at x y low under is other same differ count last = record {
  before = take k xs;
  one = x;
  other = y;
  more = drop (suc k) xs;
  more_other = drop (suc k) ys;
  first = taken_of xs k x low is;
  second = taken_of ys k y under other ∙ ap (λ (l : List Said). l ++ y ∷ drop (suc k) ys) (sym same);
  differ = differ;
  number_is = length_taken xs k (omega (arith, low));
  place_is = count;
  at_is = last;
}

-- the second ends at this place
pub ends_at : (xs ys : List Said) (k : ℕ) (x : Said) → k < length xs → length ys ≤ k → x ≡ get_or xs k x → take k xs ≡ take k ys → OneEnds xs ys
ends_at xs ys k x low end is same = (x, drop (suc k) xs, inl (taken_of xs k x low is ∙ ap (λ (l : List Said). l ++ x ∷ drop (suc k) xs) (same ∙ take_all k ys end)))

some_first : (xs : List Said) → 0 < length xs → (x : Said) × (more : List Said) × (xs ≡ x ∷ more)
some_first [] low = absurd (omega (arith, low))
some_first (x ∷ xs) low = (x, xs, refl)

taken_less : (xs ys : List Said) (n k : ℕ) → n ≤ k → take k xs ≡ take k ys → take n xs ≡ take n ys
taken_less xs ys zero k low same = refl
taken_less xs ys (suc n) zero low same = absurd (omega (arith, low))
taken_less [] [] (suc n) (suc k) low same = refl
taken_less [] (y ∷ ys) (suc n) (suc k) low same = cc
taken_less (x ∷ xs) [] (suc n) (suc k) low same = cc
taken_less (x ∷ xs) (y ∷ ys) (suc n) (suc k) low same = λ i. heads x y (take k xs) (take k ys) same i ∷ taken_less xs ys n k (omega (arith, low)) (tails x y (take k xs) (take k ys) same) i

-- the first ends at this place, and the second goes on
pub goes_on_at : (xs ys : List Said) (k : ℕ) → length xs ≤ k → length xs < length ys → take k xs ≡ take k ys → OneEnds xs ys
goes_on_at xs ys k end long same =
    let n = length xs in
    let same_n : take n xs ≡ take n ys = taken_less xs ys n k end same in
    let d = drop n ys in
    let t = some_first d (let len = length-drop n ys in omega (arith, len, long)) in
    (t.0, t.1, inr (sym (take-append-drop n ys) ∙ ap (λ (l : List Said). l ++ d) (sym same_n ∙ take_all n xs (omega arith)) ∙ ap (λ (l : List Said). xs ++ l) t.2))

pub all_the_same : (xs ys : List Said) (k : ℕ) → length xs ≤ k → length ys ≤ length xs → take k xs ≡ take k ys → xs ≡ ys
all_the_same xs ys k end long same = sym (take_all k xs end) ∙ same ∙ take_all k ys (omega (arith, end, long))

-- ---- one entry more

one_message : (x : Said) → length (messages (x ∷ [])) ≡ (if is_message x then 1 else 0)
one_message (Told item) = refl
one_message (Heard m) = refl

pub one_at_most : (x : Said) (n : ℕ) → n ≡ (if is_message x then 1 else 0) → n ≤ 1
one_at_most (Told item) n is = omega (arith, is)
one_at_most (Heard m) n is = omega (arith, is)

module _ (xs : List Said) (k : ℕ) (x : Said) (low : k < length xs) (is : x ≡ get_or xs k x) where
  more : take (k + 1) xs ≡ take k xs ++ x ∷ []
  more = take_more xs k x low ∙ ap (λ (y : Said). take k xs ++ y ∷ []) (sym is)

  pub counted : (count n : ℕ) → count ≡ length (messages (take k xs)) → n ≡ (if is_message x then 1 else 0) → count + n ≡ length (messages (take (k + 1) xs))
  counted count n before one =
      ap (λ m. m + n) before ∙ ap (λ m. length (messages (take k xs)) + m) (one ∙ sym (one_message x))
      ∙ sym (ap (λ (l : List Said). length (messages l)) more ∙ ap length (filter_map_append message_in (take k xs) (x ∷ [])) ∙ length-append (messages (take k xs)) (messages (x ∷ [])))

  pub stepped : (at new : Option Tier) → at ≡ last_step (take k xs) → new ≡ step_after at x → new ≡ last_step (take (k + 1) xs)
  stepped at new before one = one ∙ ap (λ (o : Option Tier). step_after o x) before ∙ sym (fold_push step_after None (take k xs) x) ∙ sym (ap last_step more)

-- ---- what stands where two talks part

at_front : (a b : List Said) (x : Said) → slice_get (a ++ x ∷ b) (length a) ≡ Some x
at_front [] b x = refl
at_front (y ∷ a) b x = at_front a b x

got_item : (xs : List Said) (k : ℕ) (x y : Said) → x ≡ get_or xs k x → slice_get xs k ≡ Some y → x ≡ y
got_item [] k x y is there = absurd (none_some there)
got_item (z ∷ xs) zero x y is there = is ∙ some_same there
got_item (z ∷ xs) (suc k) x y is there = got_item xs k x y is there

front_low : (a b : List Said) (x : Said) → length a < length (a ++ x ∷ b)
front_low a b x = let sum = length-append a (x ∷ b) in omega (arith, sum)

module _ (xs ys : List Said) (number place : ℕ) (at : Option Tier) (p : PartAt xs ys number place at) where
  pub part_low : number < length xs
  part_low = let low = front_low p.before p.more p.one in let len = ap length p.first in let is = p.number_is in omega (arith, low, len, is)

  pub part_under : number < length ys
  part_under = let low = front_low p.before p.more_other p.other in let len = ap length p.second in let is = p.number_is in omega (arith, low, len, is)

  pub one_is : (x : Said) → x ≡ get_or xs number x → x ≡ p.one
  one_is x is = got_item xs number x p.one is (ap (slice_get xs) p.number_is ∙ ap (λ (l : List Said). slice_get l (length p.before)) p.first ∙ at_front p.before p.more p.one)

  pub other_is : (y : Said) → y ≡ get_or ys number y → y ≡ p.other
  other_is y is = got_item ys number y p.other is (ap (slice_get ys) p.number_is ∙ ap (λ (l : List Said). slice_get l (length p.before)) p.second ∙ at_front p.before p.more_other p.other)

  -- both are messages
  pub blamed_there : (b : Blamed) (y : Tier) → p.one ≡ Heard b.first → p.other ≡ Heard b.second → at ≡ Some y → b.place ≡ place → b.at ≡ y → IsBlamedBy xs ys b
  blamed_there b y one other some count time = record {
    before = p.before;
    parts = record {
      more = p.more;
      other = p.more_other;
      first = p.first ∙ ap (λ (x : Said). p.before ++ x ∷ p.more) one;
      second = p.second ∙ ap (λ (x : Said). p.before ++ x ∷ p.more_other) other;
      differ = λ e. p.differ (one ∙ ap Heard e ∙ sym other);
    };
    place = count ∙ p.place_is;
    step = sym p.at_is ∙ some ∙ ap Some (sym time);
  }

  -- a message has a Step before it
  pub never_first : BeginsWithStep xs → (m : Message) → p.one ≡ Heard m → at ≡ None → ⊥
  never_first begun m one none =
      let t = step_before xs p.before p.more m begun (p.first ∙ ap (λ (x : Said). p.before ++ x ∷ p.more) one) in
      none_some (sym none ∙ p.at_is ∙ t.1)
