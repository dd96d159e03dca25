-- Bytes are one record, and its replay comes to one journal or to one end.
use Rattle.std.proofs.Common.{◌≡◌, ℕ, List, None, sym, ◌∙◌, subst}
use Rattle.mk_plan.specs.declared.Plan.{Plan}
use Rattle.mk_plan.specs.declared.Entry.{Entry}
use Rattle.mk_record.specs.Reading.{reading, Faulty}
use Rattle.mk_record.specs.ReplayEnd.{ReplayEnd}
use Rattle.mk_record.specs.ReplayEnd.TheVariants as ends
use Rattle.mosaikrun_endings.specs.declared.ending.Ending.{Ending}
use Rattle.mosaikrun_endings.specs.declared.ending.Ending.TheVariants.{Record}
use Rattle.mosaikrun_records.specs.Saved.{EndsEarly, IsRecord, IsSaidOf, ReplaysTo}
use Rattle.mosaikrun_records.proofs.OneOutcome.{done_is, faulty_not, same_end, same_fault, same_plan}

module _ (bytes : List ℕ) where
  -- one plan, and one journal
  pub replays_once : (P Q : Plan) (J K : List Entry) → ReplaysTo bytes P J → ReplaysTo bytes Q K → (P ≡ Q) × (J ≡ K)
  replays_once P Q J K a b =
      let same = sym a.read ∙ b.read in (
        same_plan P Q a.arrivals b.arrivals a.steps b.steps same,
        (same_end P Q a.arrivals b.arrivals a.steps b.steps same None J K ends.Done ends.Done
            (done_is P a.arrivals a.steps None J a.done) (done_is Q b.arrivals b.steps None K b.done)).0,
      )

  -- what is done doesn't end otherwise
  pub replays_or_stops : (P : Plan) (J : List Entry) (e : Ending) → ReplaysTo bytes P J → EndsEarly bytes None e → ⊥
  replays_or_stops P J e a b =
      let one = same_end P b.plan a.arrivals b.arrivals a.steps b.steps (sym a.read ∙ b.read) None J b.journal ends.Done b.end
      (done_is P a.arrivals a.steps None J a.done) b.replayed in
      let said : IsSaidOf b.plan b.journal ends.Done e = subst (λ (x : ReplayEnd). IsSaidOf b.plan b.journal x e) (sym one.1) b.said in
      said

  -- a record has no fault
  pub record_or_faulty : (line fault : ℕ) → IsRecord bytes → reading bytes ≡ Faulty line fault → ⊥
  record_or_faulty line fault a faulty = faulty_not a.plan a.arrivals a.steps line fault (sym a.read ∙ faulty)

  -- the first fault is one
  pub faulty_once : (line fault l f : ℕ) → reading bytes ≡ Faulty line fault → reading bytes ≡ Faulty l f → Record line fault ≡ Record l f
  faulty_once line fault l f a b = same_fault line fault l f (sym a ∙ b)

  -- what is replayed is a record
  pub record_replays : (P : Plan) (J : List Entry) → ReplaysTo bytes P J → IsRecord bytes
  record_replays P J a = record { plan = P; arrivals = a.arrivals; steps = a.steps; read = a.read }
