-- Two replays that are done are compared, and what comes of it.
use Rattle.std.proofs.Common.{◌≡◌, ℕ, List, Option, None, Ok, Err, All, inl, inr, sym, subst}
use Rattle.mk_plan.specs.declared.Plan.{Plan}
use Rattle.mk_plan.specs.declared.Entry.{Entry}
use Rattle.mk_plan.specs.Plans.{IsValidPlan}
use Rattle.mk_plan.specs.Journals.{Arrival, arrivals}
use Rattle.mk_record.specs.Asked.{Asked}
use Rattle.mk_record.specs.Reading.{reading, Said}
use Rattle.mk_record.specs.Steps.{IsKnown}
use Rattle.mosaikrun_endings.specs.declared.ending.Ending.{Ending}
use Rattle.mosaikrun_records.specs.Saved.{IsDoneBy, IsRecord, IsNotDone, ReplaysTo}
use Rattle.mosaikrun_blame.specs.Blames.{IsBlameText, IsUnblamed}
use Rattle.mosaikrun_blame.specs.inner.Pairs.{IsComparison, IsWholeOf}

-- a replay of a record that is done
module _ (P Q : Plan) (A : List Arrival) (s : Option (List Asked)) (J : List Entry) (same : Q ≡ P) (valid : IsValidPlan P) (done : IsDoneBy P A s None J) where
  pub valid_here : IsValidPlan Q
  valid_here = subst IsValidPlan (sym same) valid

  pub known_here : All (IsKnown P) A → All (IsKnown Q) (arrivals J)
  known_here known = subst (λ (X : Plan). All (IsKnown X) (arrivals J)) (sym same) (subst (All (IsKnown P)) (sym done.2.given) known)

  pub whole_here : IsWholeOf Q J
  whole_here =
      let whole : IsWholeOf P J = record { orderly = done.0.eager.0; paid = done.2.paid; finished = done.2.finished } in
      subst (λ (X : Plan). IsWholeOf X J) (sym same) whole

  pub replays_here : (bytes : List ℕ) → reading bytes ≡ Said P A s → ReplaysTo bytes Q J
  replays_here bytes read =
      let so : ReplaysTo bytes P J = record { arrivals = A; steps = s; read = read; valid = valid; done = done } in
      subst (λ (X : Plan). ReplaysTo bytes X J) (sym same) so

module _ (first second : List ℕ) where
  pub second_unfinished : (P : Plan) (J : List Entry) (e : Ending) → ReplaysTo first P J → IsNotDone second None e → IsUnblamed first second e
  second_unfinished P J e replays (inl wanting) = inl (inl wanting)
  second_unfinished P J e replays (inr stopped) = inr (inr (inr (inl (record { plan = P; journal = J; first_replays = replays; stopped = stopped }))))

  module _ (P Q : Plan) (J K : List Entry) (one : ReplaysTo first P J) (other : ReplaysTo second Q K) where
    pub compared_text : (text : List ℕ) → IsComparison P J Q K (Ok text) → IsBlameText first second text
    compared_text text is = record {
      both = record { plan = P; other_plan = Q; journal = J; other_journal = K; first_replays = one; second_replays = other };
      same = is.same;
      verdict = is.text_is.verdict;
      judged = is.text_is.judged;
      is = is.text_is.is;
    }

    pub compared_ending : (e : Ending) → IsComparison P J Q K (Err e) → IsUnblamed first second e
    compared_ending e (inl wanting) = inl (inl wanting)
    compared_ending e (inr is) = inr (inr (inr (inr (record {
      both = record { plan = P; other_plan = Q; journal = J; other_journal = K; first_replays = one; second_replays = other };
      part = is.part;
      differs = is.differs;
      is = is.is;
    }))))
