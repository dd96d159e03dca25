-- What holds of the lines so far goes on to hold.
use Rattle.std.proofs.Common.{◌≡◌, ℕ, ◌+◌, ◌≤◌, true, false, List, [], ◌∷◌, ◌++◌, map, length, sym, ap, ◌∙◌, arith, subst}
use Rattle.std.specs.Prelude.{Result, Ok, Err, IfOk, IfErr, OnOk, All}
use Rattle.std.specs.List.{list_all, slice_split}
use Rattle.std.proofs.lemmas.List.{map-append}
use Rattle.std.proofs.lemmas.List.Elements.{All-push}
use Rattle.mk_base.specs.declared.json.Json.{Json}
use Rattle.mk_base.specs.Trees.{is_in_range}
use Rattle.mk_plan.specs.declared.Plan.{Plan}
use Rattle.mk_plan.specs.Plans.{IsValidPlan}
use Rattle.mk_record_read.specs.declared.faults.LineFault.{LineFault}
use Rattle.mk_record_read.specs.declared.faults.LineFault.TheVariants.{Bad, Mem}
use Rattle.mk_record_read.specs.declared.faults.RecordFault.{RecordFault}
use Rattle.mk_record_read.specs.declared.faults.RecordFault.TheVariants as record_fault
use Rattle.mk_record_read.specs.declared.faults.RecordFault.TheVariants.{Line}
use Rattle.mk_record_read.specs.declared.saved.Arrival.{Arrival}
use Rattle.mk_record_read.specs.declared.saved.Progress.{Progress}
use Rattle.mk_record_read.specs.Lines.{arrival_in}
use Rattle.mk_record_read.specs.Reading.{Going, Ended, Said, Faulty, before_lines, is_feed, line_step, reading, reading_from, overlong}
use Rattle.mk_record_read.specs.Seen.{came, said_by}
use Rattle.mk_record_read.specs.inner.Seen.{state_of, saved_in}
use Rattle.mk_record_read.specs.Steps.{IsKnown}
use Rattle.mk_record_read.specs.inner.Steps.{IsSound, IsSoundAfter, IsStep, IsBadStep, IsFaultAt, IsOverlong}
use Rattle.mk_record_read.proofs.Known.{arrival-known}
use Rattle.mk_record_read.proofs.Splitting.{reads_on, reads_bad, reads_end, reads_more}

-- a message is added
pub arrived-sound : (p : Progress) (here : ℕ) (a : Arrival) → here ≡ 8 → IsSound p → IsValidPlan p.plan → IsKnown p.plan (came a) → IsSoundAfter false (record { last = here; plan = p.plan; arrivals = p.arrivals ++ a ∷ []; asks = p.asks })
arrived-sound p here a is sound valid known = record {
  sound = record {
    valid = λ _. valid;
    early = λ below. absurd (omega arith);
    known = subst (All (IsKnown p.plan)) (sym (map-append came p.arrivals (a ∷ []))) (All-push (IsKnown p.plan) (map came p.arrivals) (came a) sound.known known);
  };
  valid = λ e. absurd (grind (arith, e));
}

-- what was read is known
pub result-known : (P : Plan) (items : List Json) (r : Result Arrival LineFault) → IfOk r (λ a. arrival_in P items ≡ Ok (came a)) → list_all is_in_range items ≡ true → IfOk r (λ a. IsKnown P (came a))
result-known P items (Ok a) e fits = arrival-known P items (came a) e fits
result-known P items (Err f) e fits = tt

-- the reading so far: what is still to come gives what the whole gives
pub record Reads (bytes rest : List ℕ) (number : ℕ) (p : Progress) : Type 0 where
  pub sound : IsSound p
  pub going : reading_from (state_of p) number (slice_split is_feed rest) ≡ reading bytes
  pub counted : number + length rest ≤ length bytes + 1

pub reads-first : (bytes : List ℕ) (p : Progress) → state_of p ≡ before_lines → IsSound p → Reads bytes bytes 1 p
reads-first bytes p is sound = record { sound = sound; going = ap (λ S. reading_from S 1 (slice_split is_feed bytes)) is; counted = omega arith }

-- after a line
pub reads-next : (bytes rest line after : List ℕ) (number : ℕ) (p q : Progress) → Reads bytes rest number p → slice_split is_feed rest ≡ line ∷ slice_split is_feed after → length after + 1 ≤ length rest
    → line_step (state_of p) line ≡ Going (state_of q) → IsSound q → Reads bytes after (number + 1) q
reads-next bytes rest line after number p q reads cut shorter step sound = record {
  sound = sound;
  going = sym (reads_on (state_of p) (state_of q) number line after step) ∙ ap (reading_from (state_of p) number) (sym cut) ∙ reads.going;
  counted = let counted = reads.counted in omega arith;
}

-- a line has a fault
pub reads-fault : (bytes rest line after : List ℕ) (number l n : ℕ) (p : Progress) (fault : LineFault) (f : RecordFault) → Reads bytes rest number p → slice_split is_feed rest ≡ line ∷ slice_split is_feed after
    → IsBadStep (line_step (state_of p) line) fault → IsFaultAt number fault f → f ≡ Line l n → reading bytes ≡ Faulty l n
reads-fault bytes rest line after number l n p (Bad k) f reads cut step at is =
    let same : Line number k ≡ Line l n = sym at ∙ is in
    let here : number ≡ l = grind (arith, same) in
    let this : k ≡ n = grind (arith, same) in
    sym reads.going ∙ ap (reading_from (state_of p) number) cut ∙ reads_bad (state_of p) number k line after step ∙ ap (λ m. Faulty m k) here ∙ ap (Faulty l) this
reads-fault bytes rest line after number l n p Mem f reads cut step at is = let odd : record_fault.Mem ≡ Line l n = sym at ∙ is in absurd (grind (arith, odd))

-- the `end` line is the last
pub reads-whole : (bytes rest line after : List ℕ) (number : ℕ) (p q : Progress) → Reads bytes rest number p → slice_split is_feed rest ≡ line ∷ slice_split is_feed after → line_step (state_of p) line ≡ Ended → state_of q ≡ state_of p → after ≡ [] → reading bytes ≡ Said q.plan (map came q.arrivals) q.asks
reads-whole bytes rest line after number p q reads cut step same none = sym reads.going ∙ ap (reading_from (state_of p) number) cut ∙ reads_end (state_of p) number line after step none ∙ ap (λ S. Said S.plan S.arrivals S.asks) (sym same)

-- the `end` line is the last, if the record may end with it
pub reads-closed : {X : Type 0} (bytes rest line after : List ℕ) (number : ℕ) (p q : Progress) (r : Result X RecordFault) → Reads bytes rest number p → slice_split is_feed rest ≡ line ∷ slice_split is_feed after
    → IsStep (state_of p) (line_step (state_of p) line) true q → OnOk r (after ≡ []) → OnOk r (reading bytes ≡ said_by (saved_in q))
reads-closed bytes rest line after number p q (Ok x) reads cut step none = reads-whole bytes rest line after number p q reads cut step.0 step.1 none
reads-closed bytes rest line after number p q (Err e) reads cut step none = tt

pub sound-closed : {X : Type 0} (q : Progress) (r : Result X RecordFault) → IsSoundAfter true q → OnOk r (IsSoundAfter true q)
sound-closed q (Ok x) sound = sound
sound-closed q (Err e) sound = tt

-- more stands after the `end` line
pub reads-overlong : {X : Type 0} (bytes rest line after : List ℕ) (number l n : ℕ) (p q : Progress) (r : Result X RecordFault) → Reads bytes rest number p → slice_split is_feed rest ≡ line ∷ slice_split is_feed after
    → IsStep (state_of p) (line_step (state_of p) line) true q → IfErr r (IsOverlong number after) → r ≡ Err (Line l n) → reading bytes ≡ Faulty l n
reads-overlong bytes rest line after number l n p q (Ok s) reads cut step over is = absurd (grind (arith, is))
reads-overlong bytes rest line after number l n p q (Err record_fault.Mem) reads cut step over is = absurd over
reads-overlong bytes rest line [] number l n p q (Err (Line m k)) reads cut step over is = absurd (omega (arith, over.0))
reads-overlong bytes rest line (b ∷ bs) number l n p q (Err (Line m k)) reads cut step over is =
    let here : m ≡ l = grind (arith, is) in
    let this : k ≡ n = grind (arith, is) in
    sym reads.going ∙ ap (reading_from (state_of p) number) cut ∙ reads_more (state_of p) number line b bs step.0 ∙ ap (λ x. Faulty x overlong) (sym over.1 ∙ here) ∙ ap (Faulty l) (sym over.2 ∙ this)
