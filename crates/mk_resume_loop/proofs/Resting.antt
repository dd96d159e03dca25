-- Where nobody is ready and no reply is kept, no request is open within the program.
use Rattle.std.proofs.Common.{◌≡◌, ◌&&◌, ℕ, Bool, true, false, List, [], ◌∷◌, length, map, Option, None, sym, ap, ◌∙◌, arith, true≢false, if◌then◌else◌, refl}
use Rattle.std.specs.Prelude.{nat_lt}
use Rattle.std.proofs.lemmas.Bool.{ltb-false}
use Rattle.mk_plan.specs.declared.Plan.{Plan}
use Rattle.mk_plan.specs.declared.Message.{Message}
use Rattle.mk_plan.specs.declared.Entry.{Entry}
use Rattle.mk_plan.specs.Journals.{bare, view}
use Rattle.mk_outside.specs.declared.fleet.LogEntry.{LogEntry}
use Rattle.mk_sched.specs.Answers.{SomeReady}
use Rattle.mk_local.specs.Simulators.{Simulator}
use Rattle.mk_run_laws.specs.Handshake.{is_within}
use Rattle.mk_run_laws.specs.Crews.{CrewState, kept_of}
use Rattle.mk_run.specs.inner.Underway.{Setting, reply_in}
use Rattle.mk_resume_walk.specs.Talks.{free_items}
use Rattle.mk_resume_walk.proofs.Fronts.{all_replied}
use Rattle.mk_resume_links.specs.Rests.{Counts}
use Rattle.mk_resume_links.specs.inner.Touching.{IsResting}
use Rattle.mk_resume_loop.specs.inner.Underway.{IsResuming}

none_awaited : (a b : Bool) (m : Message) → (if a && b then m ∷ [] else []) ≡ [] → a ≡ true → b ≡ false
none_awaited true true m e inside = cc
none_awaited true false m e inside = refl
none_awaited false b m e inside = absurd (true≢false (sym inside))

pub resting : (T : Setting) (P : Plan) (first J : List Entry) (heard : Counts) (log : List LogEntry) (C : CrewState) (sims : List (Option Simulator)) → IsResuming T P first J heard log C sims → (SomeReady P J → ⊥) → C.kept ≡ [] → IsResting T.scenario P J
resting T P first J heard log C sims u nobody none = ((λ i x ready. nobody (i, x, ready)), shut)
  where
    shut : (i : ℕ) → is_within T.scenario i ≡ true → (view P J).open_at i ≡ None
    shut i inside =
        let kept = sym (u.catching.touch.kept i) ∙ ap (kept_of i) none in
        let all = none_awaited (is_within T.scenario i) (nat_lt (heard i) (length (free_items J i (heard i)))) (reply_in T i (map bare (free_items J i (heard i)))) kept inside in
        let count = u.catching.counts i in
        all_replied P J i (heard i) u.stands.orderly.0 u.no_fault u.paid (omega (arith, count)) (ltb-false (heard i) (length (free_items J i (heard i))) all)
