-- Answers to the goals of `lines::add_model` that the prover leaves.
use Rattle.std.proofs.Common.{◌≡◌, ◌<◌, ◌≤◌, ℕ, List, [], ◌∷◌, length, get_or, Option, Some, None, refl, ap, sym, ◌∙◌, arith, subst}
use Rattle.std.specs.Prelude.{Result, Ok, Err, IfErr, IsErr, IsErrAnd}
use Rattle.mk_base.specs.declared.json.Json.{Json}
use Rattle.mk_base.specs.Trees.{bool_in, whole_in, text_in, texts_in}
use Rattle.mk_plan.specs.declared.Plan.{Plan}
use Rattle.mk_message.specs.Messages.{tested}
use Rattle.mk_record_read.specs.declared.faults.LineFault.{LineFault}
use Rattle.mk_record_read.specs.declared.faults.LineFault.TheVariants.{Bad, Mem}
use Rattle.mk_record_read.specs.inner.Faults.{IsFaultOf, IsMissing}
use Rattle.mk_record_read.specs.Fields.{misformed}
use Rattle.mk_record_read.specs.Lines.{with_model}
use Rattle.mk_record_read.proofs.lines.add_model.Goals as goal

four : (xs : List Json) (a b c d : Json) → 4 ≤ length xs → length xs < 5 → a ≡ get_or xs 0 a → b ≡ get_or xs 1 b → c ≡ get_or xs 2 c → d ≡ get_or xs 3 d → xs ≡ a ∷ b ∷ c ∷ d ∷ []
four (w ∷ x ∷ y ∷ z ∷ []) a b c d low high p q r s = cc
four _ a b c d low high p q r s = absurd (omega (arith, low, high))

-- what is missing is missing, whatever stands before it
missed : {A B C D Y : Type 0} (o : Option A) (p : Option B) (q : Option C) (r : Option D) (f : A → B → C → D → Result Y ℕ) → r ≡ None → tested misformed o (λ a. tested misformed p (λ b. tested misformed q (λ c. tested misformed r (f a b c)))) ≡ Err misformed
missed None p q r f none = refl
missed (Some a) None q r f none = refl
missed (Some a) (Some b) None r f none = refl
missed (Some a) (Some b) (Some c) r f none = ap (λ o. tested misformed o (f a b c)) none

flag_missed : (P : Plan) (xs : List Json) (a b c d : Json) (e : LineFault) → xs ≡ a ∷ b ∷ c ∷ d ∷ [] → IsMissing (bool_in d) e → IsFaultOf (with_model P xs) e
flag_missed P xs a b c d Mem is none = tt
flag_missed P xs a b c d (Bad k) is none = ap (with_model P) is ∙ missed (whole_in a) (text_in b) (texts_in c) (bool_in d) _ none.0 ∙ ap Err (sym none.1)

-- what is answered is the fault
answered : {X : Type 0} (r : Result X LineFault) (e : LineFault) (F : LineFault → Type 0) → IsErr r × IsErrAnd r (λ f. f ≡ e) → F e → IfErr r F
answered (Ok x) e F given fault = absurd given.1
answered (Err f) e F given fault = subst F (sym given.1) fault

pub returns-in_err-any_inputs-clause-err : goal.returns-in_err-any_inputs-clause-err
returns-in_err-any_inputs-clause-err c =
    let e = c.in_err-any_inputs.field-0.0 in
    let fault = flag_missed c.args.plan.now c.args.items.now c.sim-item.result c.name-item.result c.attrs-item.result c.any_inputs-item.result e
    (four c.args.items.now c.sim-item.result c.name-item.result c.attrs-item.result c.any_inputs-item.result (omega arith) (omega arith) c.sim-item.is c.name-item.is c.attrs-item.is c.any_inputs-item.is) c.in_err-any_inputs.ensures.err in
    answered c.from_residual-in_err-any_inputs.result e (IsFaultOf (with_model c.args.plan.now c.args.items.now)) c.from_residual-in_err-any_inputs.ensures fault
