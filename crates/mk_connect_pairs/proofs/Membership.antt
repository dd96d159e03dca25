-- The entities of groups, one entity after the other.
use Rattle.std.proofs.Common.{◌≡◌, ℕ, zero, suc, ◌+◌, ◌<◌, ◌≤◌, nat_eq, Bool, true, false, List, [], ◌∷◌, ◌++◌, length, take, Option, Some, None, refl, sym, ap, ◌∙◌, subst, arith, if◌then◌else◌, slice_get, slice_set, get_or, true≢false}
use Rattle.std.specs.Prelude.{option_map}
use Rattle.std.proofs.lemmas.List.{take_more}
use Rattle.std.proofs.lemmas.Option.{slice_get-get_or}
use Rattle.mk_base.proofs.Lists.{append_nil, length_set, set_else, set_here}
use Rattle.mk_entities.specs.declared.entities.EntityInfo.{EntityInfo}
use Rattle.mk_connect_pairs.specs.Ends.{is_of_group, members, members_from}
use Rattle.mk_connect_pairs.specs.Lookups.{HasMembers}
use Rattle.mk_connect_pairs.specs.inner.Lookups.{HasMember, number_in}
use Rattle.mk_base.proofs.Counts.{plus_none, one_over, test_equal, test_itself}
use Rattle.mk_base.proofs.Items.{length_taken}

members_append : (g n : ℕ) (xs : List EntityInfo) (e : EntityInfo) → members_from g n (xs ++ e ∷ []) ≡ members_from g n xs ++ number_in e.group (n + length xs) g
members_append g n [] e = ap (λ k. if is_of_group g e then k ∷ [] else []) (plus_none n)
members_append g n (x ∷ xs) e = at (is_of_group g x) (members_append g (suc n) xs e ∙ ap (λ k. members_from g (suc n) xs ++ number_in e.group k g) (one_over n (length xs)))
  where
    at : (b : Bool) → members_from g (suc n) (xs ++ e ∷ []) ≡ members_from g (suc n) xs ++ number_in e.group (n + suc (length xs)) g
        → (if b then n ∷ members_from g (suc n) (xs ++ e ∷ []) else members_from g (suc n) (xs ++ e ∷ [])) ≡ (if b then n ∷ members_from g (suc n) xs else members_from g (suc n) xs) ++ number_in e.group (n + suc (length xs)) g
    at true more = ap (λ l. n ∷ l) more
    at false more = more

-- one entity more
pub members_more : (es : List EntityInfo) (i : ℕ) (e : EntityInfo) (old new : List (List ℕ)) → i < length es → e ≡ get_or es i e → HasMembers (take i es) old → HasMember old e.group i new → HasMembers (take (i + 1) es) new
members_more es i e old new below is has step g inside =
    step.each g ∙ ap (option_map (λ numbers. numbers ++ number_in e.group i g)) (has g (let h = step.count in omega arith))
    ∙ ap Some (ap (λ k. members (take i es) g ++ number_in e.group k g) (sym (length_taken es i below)) ∙ sym (members_append g 0 (take i es) e) ∙ ap (λ l. members l g) (sym (take_more es i e below ∙ ap (λ z. take i es ++ z ∷ []) (sym is))))

same_there : (o : Option (List ℕ)) → o ≡ option_map (λ numbers. numbers ++ []) o
same_there None = refl
same_there (Some numbers) = ap Some (sym (append_nil numbers))

-- a number put under its group
pub member_put : (old : List (List ℕ)) (place number : ℕ) (here d : List ℕ) → place < length old → here ≡ get_or old place d → HasMember old (Some place) number (slice_set old place (here ++ number ∷ []))
member_put old place number here d below is = record { count = length_set old place (here ++ number ∷ []); each = λ g. at g (nat_eq g place) refl }
  where
    there : slice_get old place ≡ Some here
    there = slice_get-get_or old place d below ∙ ap Some (sym is)

    at : (g : ℕ) (b : Bool) → nat_eq g place ≡ b → slice_get (slice_set old place (here ++ number ∷ [])) g ≡ option_map (λ numbers. numbers ++ (if nat_eq g place then number ∷ [] else [])) (slice_get old g)
    at g true same = let e : g ≡ place = test_equal g place same in
        ap (slice_get (slice_set old place (here ++ number ∷ []))) e ∙ set_here old place (here ++ number ∷ []) here there
        ∙ ap (λ b. Some (here ++ (if b then number ∷ [] else []))) (sym same) ∙ ap (option_map (λ numbers. numbers ++ (if nat_eq g place then number ∷ [] else []))) (sym (ap (slice_get old) e ∙ there))
    at g false other = set_else old place g (here ++ number ∷ []) (λ e. true≢false (sym (test_itself g) ∙ ap (nat_eq g) e ∙ other))
        ∙ same_there (slice_get old g) ∙ ap (λ b. option_map (λ numbers. numbers ++ (if b then number ∷ [] else [])) (slice_get old g)) (sym other)

-- a number of a group that isn't there
pub member_kept : (old : List (List ℕ)) (place number : ℕ) → length old ≤ place → HasMember old (Some place) number old
member_kept old place number beyond = record { count = refl; each = λ g. at g (nat_eq g place) refl }
  where
    none : (old : List (List ℕ)) (g : ℕ) → length old ≤ g → slice_get old g ≡ None
    none [] g beyond = refl
    none (x ∷ old) zero beyond = absurd (omega arith)
    none (x ∷ old) (suc g) beyond = none old g (omega arith)

    at : (g : ℕ) (b : Bool) → nat_eq g place ≡ b → slice_get old g ≡ option_map (λ numbers. numbers ++ (if nat_eq g place then number ∷ [] else [])) (slice_get old g)
    at g true same = let e : g ≡ place = test_equal g place same in let n : slice_get old g ≡ None = ap (slice_get old) e ∙ none old place beyond in rw n refl
    at g false other = same_there (slice_get old g) ∙ ap (λ b. option_map (λ numbers. numbers ++ (if b then number ∷ [] else [])) (slice_get old g)) (sym other)

-- one more group without entities
pub none_more : (old new : List (List ℕ)) (numbers : List ℕ) → HasMembers [] old → numbers ≡ [] → new ≡ old ++ numbers ∷ [] → HasMembers [] new
none_more old new numbers none empty is g inside = ap (λ l. slice_get l g) is ∙ at old g none (subst (λ (l : List (List ℕ)). g < length l) is inside)
  where
    at : (old : List (List ℕ)) (g : ℕ) → HasMembers [] old → g < length (old ++ numbers ∷ []) → slice_get (old ++ numbers ∷ []) g ≡ Some []
    at [] zero none inside = ap Some empty
    at [] (suc g) none inside = absurd (omega arith)
    at (x ∷ old) zero none inside = none zero (omega arith)
    at (x ∷ old) (suc g) none inside = at old g (λ h below. none (suc h) (omega arith)) (omega arith)
