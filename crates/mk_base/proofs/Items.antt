-- Items of lists, by their places, and what is found or not.
use Rattle.std.proofs.Common.{All, Err, List, None, Ok, Option, Result, Some, [], ap, append_assoc, arith, fold, get_or, inl, inr, length, map, nat_eq, option_map, refl, replicate, slice_get, subst, suc, sym, take, true, zero, ℕ, ◌++◌, ◌+◌, ◌<◌, ◌∙◌, ◌∷◌, ◌≡◌, Bool, cond, false, ◌≤◌, filter, ◌||◌}
use Rattle.mk_base.proofs.Lists.{in_back, none_some, some_same, append_nil}
use Rattle.mk_base.specs.Lists.{BeginsWith, Each, IsIn, same_text}
use Rattle.mk_base.specs.declared.LinkNo.{LinkNo}
use Rattle.std.proofs.lemmas.Bool.{and_from, eq-eqb, and_parts}
use Rattle.std.specs.List.{range_with_len, list_all, find, list_any}
use Rattle.std.specs.Prelude.{IfOk, option_to_list}
use Rattle.mk_base.proofs.Bools.{first_holds, second_holds}

pub some_none : {X : Type 0} (x : X) → Some x ≡ None → ⊥
some_none x e = cc

pub same_heads : {X : Type 0} {x y : X} {xs ys : List X} → x ∷ xs ≡ y ∷ ys → (x ≡ y) × (xs ≡ ys)
same_heads e = (cc, cc)

pub get_default : {X : Type 0} (xs : List X) (i : ℕ) (d : X) → i < length xs → slice_get xs i ≡ Some (get_or xs i d)
get_default [] i d there = absurd (omega arith)
get_default (x ∷ xs) zero d there = refl
get_default (x ∷ xs) (suc i) d there = get_default xs i d (omega arith)

pub range_more : (a n : ℕ) → range_with_len a (suc n) ≡ range_with_len a n ++ (a + n) ∷ []
range_more a zero = ap (λ m. m ∷ []) (omega arith)
range_more a (suc n) = ap (λ l. a ∷ l) (range_more (a + 1) n ∙ ap (λ m. range_with_len (a + 1) n ++ m ∷ []) (omega arith))

pub length_map : {X Y : Type 0} (f : X → Y) (xs : List X) → length (map f xs) ≡ length xs
length_map f [] = refl
length_map f (x ∷ xs) = ap suc (length_map f xs)

pub get_last : {X : Type 0} (xs : List X) (y : X) → slice_get (xs ++ y ∷ []) (length xs) ≡ Some y
get_last [] y = refl
get_last (x ∷ xs) y = get_last xs y

pub get_there : {X : Type 0} (xs : List X) (k : ℕ) → k < length xs → (x : X) × (slice_get xs k ≡ Some x)
get_there [] k less = absurd (omega (arith, less))
get_there (x ∷ xs) zero less = (x, refl)
get_there (x ∷ xs) (suc k) less = get_there xs k (omega (arith, less))

pub get_map : {X Y : Type 0} (f : X → Y) (xs : List X) (i : ℕ) → slice_get (map f xs) i ≡ option_map f (slice_get xs i)
get_map f [] i = refl
get_map f (x ∷ xs) zero = refl
get_map f (x ∷ xs) (suc i) = get_map f xs i

pub fold_push : {A B : Type 0} (f : B → A → B) (b : B) (xs : List A) (x : A) → fold f b (xs ++ x ∷ []) ≡ f (fold f b xs) x
fold_push f b [] x = refl
fold_push f b (y ∷ xs) x = fold_push f (f b y) xs x

pub not_empty : {X : Type 0} (H more : List X) (d : X) → [] ≡ H ++ d ∷ more → ⊥
not_empty [] more d e = cc
not_empty (h ∷ H) more d e = cc

pub if_ok : {A E : Type 0} {X Y : A → Type 0} (r : Result A E) → ((a : A) → X a → Y a) → IfOk r X → IfOk r Y
if_ok (Ok a) f x = f a x
if_ok (Err e) f x = tt

pub at_length : {X : Type 0} (xs ys : List X) (x : X) → slice_get (xs ++ x ∷ ys) (length xs) ≡ Some x
at_length [] ys x = refl
at_length (z ∷ xs) ys x = at_length xs ys x

pub map_map : {X Y Z : Type 0} (f : Y → Z) (g : X → Y) (xs : List X) → map f (map g xs) ≡ map (λ x. f (g x)) xs
map_map f g [] = refl
map_map f g (x ∷ xs) = ap (λ l. f (g x) ∷ l) (map_map f g xs)

pub none_left : {X : Type 0} (xs : List X) (n : ℕ) → n ≡ length xs → n ≡ 0 → xs ≡ []
none_left [] n count none = refl
none_left (x ∷ xs) n count none = absurd (omega (arith, count, none))

pub length_taken : {X : Type 0} (xs : List X) (i : ℕ) → i < length xs → 0 + length (take i xs) ≡ i
length_taken [] i below = absurd (omega arith)
length_taken (x ∷ xs) zero below = refl
length_taken (x ∷ xs) (suc i) below = let h = length_taken xs i (omega arith) in omega arith

pub get_at_place : {X : Type 0} (xs : List X) (i : ℕ) (x : X) → i < length xs → x ≡ get_or xs i x → slice_get xs i ≡ Some x
get_at_place [] i x below is = absurd (omega arith)
get_at_place (y ∷ xs) zero x below is = ap Some (sym is)
get_at_place (y ∷ xs) (suc i) x below is = get_at_place xs i x (omega arith) is

pub some_is : {X : Type 0} (x y : X) → Some x ≡ Some y → x ≡ y
some_is x y e = cc

pub front_get : {X : Type 0} (xs ys : List X) (i : ℕ) (x : X) → slice_get xs i ≡ Some x → slice_get (xs ++ ys) i ≡ Some x
front_get [] ys i x e = absurd (none_some e)
front_get (y ∷ xs) ys zero x e = e
front_get (y ∷ xs) ys (suc i) x e = front_get xs ys i x e

pub in_all : {X : Type 0} (Q : X → Type 0) (xs : List X) → ((x : X) → IsIn x xs → Q x) → All Q xs
in_all Q [] h k d l = absurd (omega arith)
in_all Q (x ∷ xs) h zero d l = h x (inl refl)
in_all Q (x ∷ xs) h (suc k) d l = in_all Q xs (λ y m. h y (inr m)) k d (omega arith)

pub only_one : (l : LinkNo) (o : Option LinkNo) → IsIn l (option_to_list o) → o ≡ Some l
only_one l None h = absurd h
only_one l (Some m) (inl e) = ap Some (sym e)
only_one l (Some m) (inr h) = absurd h

pub in_last : (link : LinkNo) (before after : List LinkNo) → after ≡ before ++ link ∷ [] → IsIn link after
in_last link before after is = subst (IsIn link) (sym is) (in_back link before (link ∷ []) (inl refl))

pub same_text_self : (x : List ℕ) → same_text x x ≡ true
same_text_self [] = refl
same_text_self (a ∷ x) = and_from (nat_eq a a) (same_text x x) (eq-eqb a a refl) (same_text_self x)

pub each_append : {X : Type 0} (Q : X → Type 0) (xs ys : List X) → Each Q xs → Each Q ys → Each Q (xs ++ ys)
each_append Q [] ys h k = k
each_append Q (x ∷ xs) ys h k = (h.0, each_append Q xs ys h.1 k)

pub each_behind : {X : Type 0} (Q : X → Type 0) (xs : List X) (y : X) → Each Q xs → Q y → Each Q (xs ++ y ∷ [])
each_behind Q [] y h k = (k, tt)
each_behind Q (x ∷ xs) y h k = (h.0, each_behind Q xs y h.1 k)

pub begins_twice : {X : Type 0} (l a b : List X) → BeginsWith l a → BeginsWith a b → BeginsWith l b
begins_twice l a b s t = (t.0 ++ s.0, s.1 ∙ ap (λ x. x ++ s.0) t.1 ∙ append_assoc b t.0 s.0)

pub take_get : {X : Type 0} (xs : List X) (k : ℕ) (x : X) → slice_get xs k ≡ Some x → take (suc k) xs ≡ take k xs ++ x ∷ []
take_get [] k x is = cc
take_get (y ∷ ys) zero x is = ap (λ z. z ∷ []) (some_same is)
take_get (y ∷ ys) (suc k) x is = ap (λ l. y ∷ l) (take_get ys k x is)

pub same_behind : {X : Type 0} (xs ys zs : List X) → xs ++ ys ≡ xs ++ zs → ys ≡ zs
same_behind [] ys zs e = e
same_behind (x ∷ xs) ys zs e = same_behind xs ys zs (let t : xs ++ ys ≡ xs ++ zs = cc in t)

pub get_below : {X : Type 0} (xs : List X) (i : ℕ) (x : X) → slice_get xs i ≡ Some x → i < length xs
get_below [] i x at = cc
get_below (y ∷ ys) zero x at = omega arith
get_below (y ∷ ys) (suc i) x at = omega (arith, get_below ys i x at)

pub default_there : {X : Type 0} (xs : List X) (k : ℕ) (d : X) → k < length xs → get_or xs k d ≡ get_or xs k (get_or xs k d)
default_there [] k d less = absurd (omega (arith, less))
default_there (x ∷ xs) zero d less = refl
default_there (x ∷ xs) (suc k) d less = default_there xs k d (omega (arith, less))

pub list_all_push : {X : Type 0} (p : X → Bool) (xs : List X) (x : X) → list_all p xs ≡ true → p x ≡ true → list_all p (xs ++ x ∷ []) ≡ true
list_all_push p [] x all one = rw one refl
list_all_push p (y ∷ ys) x all one = let t = and_parts (p y) (list_all p ys) all in and_from _ _ t.0 (list_all_push p ys x t.1 one)

pub take_all : {X : Type 0} (xs : List X) → take (length xs) xs ≡ xs
take_all [] = refl
take_all (x ∷ xs) = ap (λ l. x ∷ l) (take_all xs)

pub found_below : (test : ℕ → Bool) (a n i : ℕ) → find test (range_with_len a n) ≡ Some i → i < a + n
found_below test a zero i h = absurd (none_some h)
found_below test a (suc n) i h = elim (test a) as (λ b. cond b (Some a) (find test (range_with_len (a + 1) n)) ≡ Some i → i < a + suc n) [
  | true ↦ λ e. let is : a ≡ i = some_same e in omega (arith, is)
  | false ↦ λ e. let low = found_below test (a + 1) n i e in omega (arith, low)
] h

pub nothing_behind : {X : Type 0} (xs ys : List X) → xs ≡ xs ++ ys → ys ≡ []
nothing_behind xs ys e = sym (same_behind xs [] ys (append_nil xs ∙ e))

pub passes_at : {A : Type 0} (p : A → Bool) (xs : List A) (i : ℕ) (x : A) → list_all p xs ≡ true → i < length xs → x ≡ get_or xs i x → p x ≡ true
passes_at p [] i x all below is = absurd (omega arith)
passes_at p (y ∷ ys) zero x all below is = ap p is ∙ first_holds (p y) (list_all p ys) all
passes_at p (y ∷ ys) (suc i) x all below is = passes_at p ys i x (second_holds (p y) (list_all p ys) all) (omega arith) is

pub take_whole : {X : Type 0} (xs : List X) (k : ℕ) → length xs ≤ k → take k xs ≡ xs
take_whole [] zero h = refl
take_whole [] (suc k) h = refl
take_whole (x ∷ xs) zero h = absurd (omega (arith, h))
take_whole (x ∷ xs) (suc k) h = ap (λ l. x ∷ l) (take_whole xs k (omega (arith, h)))

pub each_then : {X : Type 0} (P Q : X → Type 0) (xs : List X) → ((x : X) → P x → Q x) → Each P xs → Each Q xs
each_then P Q [] f all = tt
each_then P Q (x ∷ xs) f all = (f x all.0, each_then P Q xs f all.1)

pub at_each : {X : Type 0} (A : X → Type 0) (xs : List X) (i : ℕ) (x : X) → Each A xs → slice_get xs i ≡ Some x → A x
at_each A [] i x all there = absurd (none_some there)
at_each A (y ∷ xs) zero x all there = subst A (some_same there) all.0
at_each A (y ∷ xs) (suc i) x all there = at_each A xs i x all.1 there

pub filter_same : (p q : ℕ → Bool) (xs : List ℕ) → ((x : ℕ) → IsIn x xs → p x ≡ q x) → filter p xs ≡ filter q xs
filter_same p q [] h = refl
filter_same p q (x ∷ xs) h = ap (λ b. cond b (x ∷ filter p xs) (filter p xs)) (h x (inl refl)) ∙ ap (λ (l : List ℕ). cond (q x) (x ∷ l) l) (filter_same p q xs (λ y m. h y (inr m)))

pub any_same : {X : Type 0} (p q : X → Bool) → ((x : X) → p x ≡ q x) → (xs : List X) → list_any p xs ≡ list_any q xs
any_same p q same [] = refl
any_same p q same (x ∷ xs) = λ i. same x i || any_same p q same xs i

pub get_replicate : {X : Type 0} (n k : ℕ) (x : X) → k < n → slice_get (replicate n x) k ≡ Some x
get_replicate zero k x below = absurd (omega arith)
get_replicate (suc n) zero x below = refl
get_replicate (suc n) (suc k) x below = get_replicate n k x (omega arith)
