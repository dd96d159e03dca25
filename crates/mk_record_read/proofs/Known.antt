-- A message that was read is known.
use Rattle.std.proofs.Common.{◌≡◌, ℕ, ℤ, pos, nat_abs, Bool, true, false, List, [], ◌∷◌, Option, Some, None, ap, refl, ◌<◌, length, ◌&&◌, arith, subst, negsuc}
use Rattle.std.specs.Prelude.{Result, Ok, Err}
use Rattle.std.proofs.lemmas.Int.{ints}
use Rattle.std.specs.Result.{result_ok}
use Rattle.std.specs.List.{list_all}
use Rattle.mk_base.specs.declared.json.Json.{Json}
use Rattle.mk_base.specs.Trees.{is_in_range, whole_in}
use Rattle.mk_plan.specs.declared.Plan.{Plan}
use Rattle.mk_plan.specs.declared.Message.{Message}
use Rattle.mk_plan.specs.Journals.{Arrival}
use Rattle.mk_message.specs.Messages.{message_in, tested}
use Rattle.mk_message.proofs.Ranges.{fits_in}
use Rattle.mk_record_read.specs.Fields.{limited, misformed, is_below}
use Rattle.mk_record_read.specs.Lines.{arrival_in}
use Rattle.mk_record_read.specs.Steps.{IsKnown}
use Rattle.mk_base.proofs.Items.{some_is}
use Rattle.mk_record_read.specs.declared.saved.Arrival as saved

-- what is tested is there
found-ok : {X Y : Type 0} (n : ℕ) (o : Option X) (f : X → Result Y ℕ) (y : Y) → tested n o f ≡ Ok y → (x : X) × (o ≡ Some x) × (f x ≡ Ok y)
found-ok n None f y e = absurd (grind (arith, e))
found-ok n (Some x) f y e = (x, refl, e)

limited-ok : {Y : Type 0} (b : Bool) (x y : Y) → limited b x ≡ Ok y → (b ≡ true) × (x ≡ y)
limited-ok true x y e = (refl, grind (arith, e))
limited-ok false x y e = absurd (grind (arith, e))

pub ok-is : (r : Result Message ℕ) (m : Message) → result_ok r ≡ Some m → r ≡ Ok m
ok-is (Ok n) m e = ap Ok (some_is n m e)
ok-is (Err n) m e = absurd (grind (arith, e))

second_of : (a b : Bool) → (a && (b && true)) ≡ true → b ≡ true
second_of a b e = grind (arith, e)

below-is : (n : ℕ) (s : ℤ) → is_below n s ≡ true → nat_abs s < n
below-is n (pos k) e = grind (arith, ints, e)
below-is n (negsuc k) e = grind (arith, ints, e)

-- a message that was read is known
pub arrival-known : (P : Plan) (items : List Json) (a : Arrival) → arrival_in P items ≡ Ok a → list_all is_in_range items ≡ true → IsKnown P a
arrival-known P [] a e fits = absurd (grind (arith, e))
arrival-known P (sim ∷ []) a e fits = absurd (grind (arith, e))
arrival-known P (sim ∷ message ∷ more ∷ items) a e fits = absurd (grind (arith, e))
arrival-known P (sim ∷ message ∷ []) a e fits =
    let s = found-ok misformed (whole_in sim) _ a e in
    let m = found-ok misformed (result_ok (message_in message)) _ a s.2 in
    let b = limited-ok (is_below (length P.sims) s.0) _ a m.2 in
    let known : IsKnown P (record { sim = nat_abs s.0; message = m.0 }) = record {
      sim = below-is (length P.sims) s.0 b.0;
      in_range = fits_in message m.0 (ok-is (message_in message) m.0 m.1) (second_of (is_in_range sim) (is_in_range message) fits);
    } in subst (IsKnown P) b.1 known

-- a message that came, as a record keeps it
abbrev pub kept_as : Arrival → saved.Arrival
kept_as a = record { sim = record { 0 = a.sim }; message = a.message }
