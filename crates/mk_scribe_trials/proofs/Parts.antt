-- Parts of a journal that can be written.
use Rattle.std.proofs.Common.{◌≡◌, ℕ, Bool, true, false, ◌&&◌, List, [], ◌∷◌, ◌++◌, take, drop, refl, sym, ap, ◌∙◌, subst, append_assoc}
use Rattle.std.specs.List.{list_all}
use Rattle.std.proofs.lemmas.List.{take-append-drop}
use Rattle.mk_plan.specs.declared.Entry.{Entry}
use Rattle.mk_plan.specs.declared.Entry.TheVariants.{Got}
use Rattle.mk_onlooker.specs.Showings.{AreInRange}
use Rattle.mk_record_write.specs.Writable.{is_writable}

and_left : (a b : Bool) → (a && b) ≡ true → a ≡ true
and_left true b is = refl
and_left false b is = absurd cc

and_right : (a b : Bool) → (a && b) ≡ true → b ≡ true
and_right true b is = is
and_right false b is = absurd cc

one_passes : (before : List Entry) (entry : Entry) (more : List Entry) → list_all is_writable (before ++ entry ∷ more) ≡ true → is_writable entry ≡ true
one_passes [] entry more all = and_left (is_writable entry) (list_all is_writable more) all
one_passes (first ∷ before) entry more all = one_passes before entry more (and_right (is_writable first) (list_all is_writable (before ++ entry ∷ more)) all)

-- so many entries behind a place
pub part_in_range : (n place : ℕ) (J : List Entry) → list_all is_writable J ≡ true → AreInRange (take n (drop place J))
part_in_range n place J all H s m more is =
    one_passes (take place J ++ H) (Got s m) (more ++ drop n (drop place J)) (subst (λ (l : List Entry). list_all is_writable l ≡ true)
    (sym (take-append-drop place J)
    ∙ ap (λ l. take place J ++ l) (sym (take-append-drop n (drop place J)))
    ∙ ap (λ l. take place J ++ (l ++ drop n (drop place J))) is
    ∙ ap (λ l. take place J ++ l) (append_assoc H (Got s m ∷ more) (drop n (drop place J)))
    ∙ sym (append_assoc (take place J) H (Got s m ∷ (more ++ drop n (drop place J))))) all)
