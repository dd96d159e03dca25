-- A resumed run shows the journal that it goes on from, and what it adds to it.
use Rattle.std.proofs.Common.{◌≡◌, Bool, true, List, Option, Some, None, map, sym, ◌∙◌, subst}
use Rattle.std.specs.Prelude.{drop}
use Rattle.mk_plan.specs.declared.Plan.{Plan}
use Rattle.mk_plan.specs.declared.Entry.{Entry}
use Rattle.mk_plan.specs.declared.Journal.{Journal}
use Rattle.mk_record_read.specs.declared.saved.Saved.{Saved}
use Rattle.mk_record_read.specs.Seen.{came}
use Rattle.mk_record_restored.specs.Restored.{IsOnward, IsRestored}
use Rattle.mk_sched.specs.Cores.{CoreState}
use Rattle.mk_onlooker.specs.Showings.{IsShown}
use Rattle.mk_onlooker.proofs.OnShowings.{no_items, shown_first}
use Rattle.mk_resume.specs.Showings.{ShowsAsResumed}
use Rattle.mk_resume.specs.inner.Going.{ShowsOnward}

module _ {O : Type 0} (looks : O → Plan → List Entry → Bool → O → Type 0) (old new : O) where
  -- nothing was added
  pub had_shown : (P Q : Plan) (J K : List Entry) → Q ≡ P → K ≡ J → looks old Q (drop 0 K) true new → IsShown looks P true J J old new
  had_shown P Q J K plan entries look = shown_first looks P true J J old new (no_items J) (subst (λ (R : Plan). looks old R (drop 0 J) true new) plan (subst (λ (L : List Entry). looks old Q (drop 0 L) true new) entries look))

  -- the core had the journal that the record's messages make
  pub shows_on : (plan : Plan) (saved : Saved) (core : CoreState) (taken : Bool) (P : Option Plan) (J : Option Journal) → taken ≡ true → IsOnward plan (map came saved.arrivals) saved.asks core → ShowsOnward looks core P J old new → ShowsAsResumed looks saved taken P J old new
  shows_on plan saved core taken P J is on shows = subst (λ (b : Bool). ShowsAsResumed looks saved b P J old new) (sym is) (go P J shows)
    where
      go : (P : Option Plan) (J : Option Journal) → ShowsOnward looks core P J old new → ShowsAsResumed looks saved true P J old new
      go (Some P) (Some J) shows = (core.entries, subst (λ (R : Plan). IsRestored R (map came saved.arrivals) core.entries) (sym (shows.0 ∙ on.plan)) on.restored, on.same, shows.1)
      go (Some P) None shows = shows
      go None J shows = shows
