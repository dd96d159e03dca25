-- Answers to the goals of `behind::Behind::is_anybody` that the prover leaves.
use Rattle.std.proofs.Common.{◌≡◌, ℕ, Bool, true, false, List, Some, None, Option, is_some, slice_get, sym, ap, ◌∙◌, refl}
use Rattle.std.specs.List.{list_any}
use Rattle.mk_base.proofs.Lists.{at_in, in_at, passes_some, some_passes}
use Rattle.std.proofs.lemmas.Bool.{false≢true}
use Rattle.mk_resume_loop.specs.declared.behind.Standing.{Standing}
use Rattle.mk_resume_loop.proofs.behind.Behind.is_anybody.Goals as goal

abbrev Has : Option Standing → Bool
Has o = is_some o

none_has : (sims : List (Option Standing)) → list_any Has sims ≡ false → (i : ℕ) (o : Option Standing) → slice_get sims i ≡ Some o → o ≡ None
none_has sims none i None is = refl
none_has sims none i (Some c) is = absurd (false≢true (sym none ∙ passes_some Has (Some c) sims (at_in (Some c) sims i is) refl))

one_has : (sims : List (Option Standing)) → list_any Has sims ≡ true → (i : ℕ) × (c : Standing) × (slice_get sims i ≡ Some (Some c))
one_has sims some = let t = some_passes Has sims some in let w = in_at t.0 sims t.1 in go t.0 w.0 w.1 t.2
  where
    go : (o : Option Standing) (i : ℕ) → slice_get sims i ≡ Some o → Has o ≡ true → (i : ℕ) × (c : Standing) × (slice_get sims i ≡ Some (Some c))
    go None i is has = absurd (false≢true has)
    go (Some c) i is has = (i, c, is)

pub returns-clause-all : goal.returns-clause-all
returns-clause-all c = rw (← c.self.view_is) (λ no. none_has c.self.inside.sims.items (sym (c.some_behind.ensures ∙ ap (list_any Has) c.as_slice.ensures.value) ∙ no))

pub returns-clause-some : goal.returns-clause-some
returns-clause-some c = rw (← c.self.view_is) (λ yes. one_has c.self.inside.sims.items (sym (c.some_behind.ensures ∙ ap (list_any Has) c.as_slice.ensures.value) ∙ yes))
