-- What was shown of a resumed run is what its new record says.
use Rattle.std.proofs.Common.{◌≡◌, ◌⊎◌, inl, inr, ℕ, Bool, true, false, List, Option, Some, None, option_map, refl, sym, ap, subst}
use Rattle.mk_plan.specs.declared.Plan.{Plan}
use Rattle.mk_plan.specs.declared.Journal.{Journal}
use Rattle.mk_plan.specs.declared.Entry.{Entry}
use Rattle.mk_record_read.specs.declared.saved.Saved.{Saved}
use Rattle.mk_resume.specs.Showings.{ShowsAsResumed}
use Rattle.mosaikrun_run.specs.Sayings.{record_of}
use Rattle.mosaikrun_run.proofs.Showing.{recorded_or_not}
use Rattle.mosaikrun_resume.specs.Shown.{HasShownOnward}

module _ {O : Type 0} (looks : O → Plan → List Entry → Bool → O → Type 0) (saved : Saved) (plan : Option Plan) (journal : Option Journal) (old new : O) where
  pub shown_onward : (taken : Bool) → ShowsAsResumed looks saved taken plan journal old new → (P : Plan) (J : Journal) → plan ≡ Some P → journal ≡ Some J → {V : Type 0} (f : V → List ℕ) (wanted : Bool) (kept : Option V) (X : Type 0)
      → (taken ≡ true → (option_map f kept ≡ record_of wanted P J.entries) ⊎ ((kept ≡ None) × X)) → (taken ≡ false → kept ≡ None) → HasShownOnward looks (option_map f kept) old new
  shown_onward false shown P J has_plan has_journal f wanted kept X recorded unrecorded = inl (shown, ap (option_map f) (unrecorded refl))
  shown_onward true shown P J has_plan has_journal f wanted kept X recorded unrecorded =
      let t = subst (λ (j : Option Journal). ShowsAsResumed looks saved true (Some P) j old new) has_journal (subst (λ (p : Option Plan). ShowsAsResumed looks saved true p journal old new) has_plan shown) in
      inr (record { plan = P; had = t.0; journal = J.entries; shown = t.3; recorded = recorded_or_not f wanted P J.entries kept X (recorded refl) })

  pub unshown_onward : (taken : Bool) → ShowsAsResumed looks saved taken plan journal old new → plan ≡ None → HasShownOnward looks None old new
  unshown_onward false shown no_plan = inl (shown, refl)
  unshown_onward true shown no_plan = absurd (subst (λ (p : Option Plan). ShowsAsResumed looks saved true p journal old new) no_plan shown)
