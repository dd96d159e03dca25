-- Entries that can be written.
use Rattle.std.proofs.Common.{◌≡◌, Bool, true, false, ◌&&◌, List, [], ◌∷◌, ◌++◌, refl, subst}
use Rattle.std.specs.List.{list_all}
use Rattle.mk_plan.specs.declared.Entry.{Entry}
use Rattle.mk_plan.specs.declared.Entry.TheVariants.{Got}
use Rattle.mk_onlooker.specs.Showings.{AreInRange}
use Rattle.mk_record_write.specs.Writable.{is_writable}

and_left : (a b : Bool) → (a && b) ≡ true → a ≡ true
and_left true b is = refl
and_left false b is = absurd cc

and_right : (a b : Bool) → (a && b) ≡ true → b ≡ true
and_right true b is = is
and_right false b is = absurd cc

one_passes : (before : List Entry) (entry : Entry) (more : List Entry) → list_all is_writable (before ++ entry ∷ more) ≡ true → is_writable entry ≡ true
one_passes [] entry more all = and_left (is_writable entry) (list_all is_writable more) all
one_passes (first ∷ before) entry more all = one_passes before entry more (and_right (is_writable first) (list_all is_writable (before ++ entry ∷ more)) all)

pub all_in_range : (J : List Entry) → list_all is_writable J ≡ true → AreInRange J
all_in_range J all H s m more is = one_passes H (Got s m) more (subst (λ (l : List Entry). list_all is_writable l ≡ true) is all)
