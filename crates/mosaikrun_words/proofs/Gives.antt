-- What `clap` makes of words in one spelling.
use Rattle.std.proofs.Common.{◌≡◌, ◌==◌, true, List, [], ◌∷◌, Option, Some, is_some, Result, Ok, Err, IfOk, codes, refl, sym, ap, ◌∙◌, subst, true≢false}
use Rattle.clap.proofs.OnLiterals.{clap_on_literals}
use Rattle.clap.proofs.WalkLemmas.{first_value-rows}
use Rattle.clap.specs.Words.{App, HasMatchesOf, first_of, first_value, found_of, is_simple, matches_of, takes}
use Rattle.clap.specs.declared.parser.matches.ArgMatches.{ArgMatches}
use Rattle.mosaikrun_words.specs.inner.Apps.{one_app, option_app, two_app}
use Rattle.mosaikrun_words.specs.inner.Arranged.{long, name_of}
use Rattle.mosaikrun_words.specs.Words.{Text, is_value}
use Rattle.mosaikrun_words.specs.declared.request.OptionName.{OptionName}
use Rattle.mosaikrun_words.specs.declared.request.OptionName.TheVariants.{Record, Order, Strict}
use Rattle.mk_base.proofs.Bools.{not_true}

-- the words are taken, and the value is found under the name
pub record Gives (a : App) (words : List Text) (id value : Text) : Type 0 where
  pub simple : is_simple a ≡ true
  pub takes : takes a words ≡ true
  pub found : first_of id (matches_of a words) ≡ Some value

pub one_gives : (s : Text) → is_value s ≡ true → Gives one_app (s ∷ []) (codes "first") s
unfolding clap_on_literals
one_gives [] h = absurd (true≢false (sym h))
one_gives (x ∷ xs) h = let e = not_true (x == 45) h in record { simple = refl; takes = simp e refl; found = simp e refl }

pub option_gives : (o : OptionName) (s v : Text) → is_value s ≡ true → is_value v ≡ true
    → Gives (option_app (name_of o)) (s ∷ long (name_of o) ∷ v ∷ []) (codes "first") s × Gives (option_app (name_of o)) (s ∷ long (name_of o) ∷ v ∷ []) (name_of o) v
unfolding clap_on_literals
option_gives o [] v h k = absurd (true≢false (sym h))
option_gives o (x ∷ xs) [] h k = absurd (true≢false (sym k))
option_gives Record (x ∷ xs) (y ∷ ys) h k =
    let e = not_true (x == 45) h in let d = not_true (y == 45) k in
    (record { simple = refl; takes = simp (e, d) refl; found = simp (e, d) refl }, record { simple = refl; takes = simp (e, d) refl; found = simp (e, d) refl })
option_gives Order (x ∷ xs) (y ∷ ys) h k =
    let e = not_true (x == 45) h in let d = not_true (y == 45) k in
    (record { simple = refl; takes = simp (e, d) refl; found = simp (e, d) refl }, record { simple = refl; takes = simp (e, d) refl; found = simp (e, d) refl })
option_gives Strict (x ∷ xs) (y ∷ ys) h k =
    let e = not_true (x == 45) h in let d = not_true (y == 45) k in
    (record { simple = refl; takes = simp (e, d) refl; found = simp (e, d) refl }, record { simple = refl; takes = simp (e, d) refl; found = simp (e, d) refl })

-- the same, where the option's name and its spelling are known
pub option_gives_so : (o : OptionName) (name spelled s v : Text) → name ≡ name_of o → spelled ≡ long (name_of o) → is_value s ≡ true → is_value v ≡ true
    → Gives (option_app name) (s ∷ spelled ∷ v ∷ []) (codes "first") s × Gives (option_app name) (s ∷ spelled ∷ v ∷ []) name v
option_gives_so o name spelled s v name_is spelled_is h k =
    subst (λ (n : Text). Gives (option_app n) (s ∷ spelled ∷ v ∷ []) (codes "first") s × Gives (option_app n) (s ∷ spelled ∷ v ∷ []) n v) (sym name_is)
    (subst (λ (w : Text). Gives (option_app (name_of o)) (s ∷ w ∷ v ∷ []) (codes "first") s × Gives (option_app (name_of o)) (s ∷ w ∷ v ∷ []) (name_of o) v) (sym spelled_is) (option_gives o s v h k))

pub two_gives : (s t : Text) → is_value s ≡ true → is_value t ≡ true → Gives two_app (s ∷ t ∷ []) (codes "first") s × Gives two_app (s ∷ t ∷ []) (codes "second") t
unfolding clap_on_literals
two_gives [] t h k = absurd (true≢false (sym h))
two_gives (x ∷ xs) [] h k = absurd (true≢false (sym k))
two_gives (x ∷ xs) (y ∷ ys) h k =
    let e = not_true (x == 45) h in let d = not_true (y == 45) k in
    (record { simple = refl; takes = simp (e, d) refl; found = simp (e, d) refl }, record { simple = refl; takes = simp (e, d) refl; found = simp (e, d) refl })

-- what `clap` found is what it gives
pub found_value : (a : App) (words : List Text) (id value : Text) (m : ArgMatches) → Gives a words id value → HasMatchesOf a words m → first_value (found_of m) id ≡ Some value
found_value a words id value m gives matches = first_value-rows (found_of m) id ∙ ap (first_of id) (matches gives.simple).0 ∙ gives.found

-- what is read is what was given
module _ (a b : App) (words : List Text) (id value : Text) (same : a ≡ b) (gives : Gives b words id value) where
  pub is_taken : takes a words ≡ true
  is_taken = ap (λ (x : App). takes x words) same ∙ gives.takes

  pub is_first : (m : ArgMatches) → HasMatchesOf a words m → first_value (found_of m) id ≡ Some value
  is_first m has = found_value b words id value m gives (subst (λ (x : App). HasMatchesOf x words m) same has)

  pub is_there : (m : ArgMatches) → HasMatchesOf a words m → is_some (first_value (found_of m) id) ≡ true
  is_there m has = ap is_some (is_first m has)

  pub is_value_given : (m : ArgMatches) → HasMatchesOf a words m → (t : Text) → first_value (found_of m) id ≡ Some t → t ≡ value
  is_value_given m has t is = let e : Some t ≡ Some value = sym is ∙ is_first m has in let same_text : t ≡ value = cc in same_text

pub is_value_where_ok : {E : Type 0} (r : Result Text E) (o : Option Text) (value : Text) → o ≡ Some value → IfOk r (λ t. o ≡ Some t) → IfOk r (λ t. t ≡ value)
is_value_where_ok (Ok t) o value e is = let h : Some t ≡ Some value = sym is ∙ e in let same : t ≡ value = cc in same
is_value_where_ok (Err e) o value h is = tt
