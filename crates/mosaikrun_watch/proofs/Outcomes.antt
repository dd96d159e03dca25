-- What the steps of `watch` say, as what `watch` makes of the bytes.
use Rattle.std.proofs.Common.{◌≡◌, ℕ, List, length, Option, None, Result, Ok, Err, IfErr, inl, inr, ap, ◌∙◌}
use Rattle.std.proofs.Math.Path.{fun_ext}
use Rattle.mk_plan.specs.declared.Plan.{Plan}
use Rattle.mk_plan.specs.declared.Entry.{Entry}
use Rattle.mk_plan.specs.Plans.{IsValidPlan}
use Rattle.mk_plan.specs.Journals.{Arrival, got, sent}
use Rattle.mk_plan.specs.Sequential.{Messages, run_items}
use Rattle.mk_record.specs.Reading.{reading, Said}
use Rattle.mk_record.specs.Asked.{Asked}
use Rattle.mk_record.specs.Replays.{messages_from}
use Rattle.mk_watch_read.specs.declared.rule.Fold.{Fold}
use Rattle.mk_watch_read.specs.declared.watches.Watch.{Watch}
use Rattle.mk_watch_read.specs.Watches.{AreInside, watches_of}
use Rattle.mk_watch.specs.Tables.{tables_text}
use Rattle.mosaikrun_endings.specs.declared.ending.Ending.{Ending}
use Rattle.mosaikrun_records.specs.Saved.{IsDoneBy, IsNotDone}
use Rattle.mosaikrun_records.proofs.WholeRuns.{got_is}
use Rattle.mosaikrun_watch.specs.Watched.{IsNoWatch, IsTabled, IsUntabled}
use Rattle.mk_watch.proofs.Whole.{same_tables}

pub on_err : {T E : Type 0} {P Q : E → Type 0} (r : Result T E) → ((e : E) → P e → Q e) → IfErr r P → IfErr r Q
on_err (Ok x) f p = tt
on_err (Err e) f p = f e p

module _ (names : List (List ℕ)) (folds : List Fold) (bytes spec : List ℕ) (P : Plan) (A : List Arrival) (steps : Option (List Asked)) (read : reading bytes ≡ Said P A steps) where
  pub refused : (e : Ending) → IsNoWatch P names spec e → IsUntabled names bytes spec e
  refused e (inl mem) = inl (inl mem)
  refused e (inr (fault, is, first)) = inr (inl (record { plan = P; arrivals = A; steps = steps; fault = fault; record_is = read; refused = first; is = is }))

  pub undone : (ws : List Watch) (e : Ending) → watches_of P names spec ≡ Ok ws → IsNotDone bytes None e → IsUntabled names bytes spec e
  undone ws e said (inl mem) = inl (inl mem)
  undone ws e said (inr stopped) = inr (inr (record { plan = P; arrivals = A; steps = steps; watches = ws; record_is = read; read = said; stopped = stopped }))

  pub tabled : (valid : IsValidPlan P) (Q : Plan) (J : List Entry) (ws : List Watch) (text : List ℕ) → watches_of P names spec ≡ Ok ws → AreInside P (length names) ws → IsDoneBy P A steps None J → Q ≡ P → text ≡ tables_text Q names folds (sent J) ws
      → IsTabled names folds bytes spec text
  tabled valid Q J ws text said inside done same is =
      let heard : (i : ℕ) → got J i ≡ messages_from A i = λ i. got_is J i ∙ ap (λ (B : List Arrival). messages_from B i) done.2.given in
      record {
        plan = P;
        journal = J;
        watches = ws;
        replayed = record { arrivals = A; steps = steps; read = read; valid = valid; done = done };
        read = said;
        is = is ∙ ap (λ (X : Plan). tables_text X names folds (sent J) ws) same ∙ same_tables P valid J done.2.finished names folds ws inside
            ∙ ap (λ (R : Messages). tables_text P names folds (run_items P R) ws) (fun_ext heard);
      }
