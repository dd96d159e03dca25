-- The last Step of a simulator, and the last simulator that has one.
use Rattle.std.proofs.Common.{◌≡◌, ℕ, true, false, cond, List, [], ◌∷◌, ◌++◌, length, Option, Some, None, Result, Ok, Err, OnOk, refl, sym, ap, ◌∙◌, append_assoc, nat_lt}
use Rattle.std.specs.Prelude.{codes}
use Rattle.std.specs.List.{cons_option}
use Rattle.mk_base.proofs.Lists.{append_nil, filter_append}
use Rattle.mk_base.specs.Lists.{last_of}
use Rattle.mk_plan.specs.declared.Item.{Item}
use Rattle.mk_plan.specs.declared.Entry.{Entry}
use Rattle.mk_plan.specs.Journals.{sent, sent_to}
use Rattle.mk_plan.specs.Report.{is_step, line_of, steps_in, last_line, last_stepped}
use Rattle.mk_record_report.specs.inner.Summary.{later, step_in, step_to, steps_at}
use Rattle.mk_plan.proofs.Sending.{sent_push}

last_push : (xs : List Item) (x : Item) → last_of (xs ++ x ∷ []) ≡ Some x
last_push [] x = refl
last_push (y ∷ []) x = refl
last_push (y ∷ z ∷ xs) x = last_push (z ∷ xs) x

-- the Step that an option holds
abbrev listed : Option Item → List Item
listed None = []
listed (Some x) = x ∷ []

steps_listed : (o : Option Item) → steps_in (cons_option o []) ≡ listed (step_in o)
steps_listed None = refl
steps_listed (Some x) = elim (is_step x) as (λ b. cond b (x ∷ []) [] ≡ listed (cond b (Some x) None)) [ true ↦ refl | false ↦ refl ]

steps_push : (J : List Entry) (e : Entry) (i : ℕ) → steps_in (sent (J ++ e ∷ []) i) ≡ steps_in (sent J i) ++ listed (step_to i e)
steps_push J e i = ap steps_in (sent_push J e i) ∙ filter_append is_step (sent J i) (sent (e ∷ []) i) ∙ ap (λ l. steps_in (sent J i) ++ l) (steps_listed (sent_to i e))

last_listed : (xs : List Item) (o : Option Item) → last_of (xs ++ listed o) ≡ later (last_of xs) o
last_listed xs None = ap (λ (l : List Item). last_of l) (append_nil xs)
last_listed xs (Some x) = last_push xs x

-- the last Step after one more entry
pub last_more : (J : List Entry) (e : Entry) (i : ℕ) (first second : Option Item) → first ≡ last_of (steps_in (sent J i)) → second ≡ step_to i e → later first second ≡ last_of (steps_in (sent (J ++ e ∷ []) i))
last_more J e i first second before here = sym (ap (λ (l : List Item). last_of l) (steps_push J e i) ∙ last_listed (steps_in (sent J i)) (step_to i e) ∙ ap (λ o. later o (step_to i e)) (sym before) ∙ ap (later first) (sym here))

-- the line of the last item, if there is one
no_last_line : (xs : List Item) → last_of xs ≡ None → last_line xs ≡ []
no_last_line [] e = refl
no_last_line (x ∷ []) e = cc
no_last_line (x ∷ y ∷ xs) e = no_last_line (y ∷ xs) e

a_last_line : (xs : List Item) (x : Item) → last_of xs ≡ Some x → last_line xs ≡ codes "last " ++ line_of x
a_last_line [] x e = cc
a_last_line (y ∷ []) x e = let same : y ≡ x = cc in ap (λ z. codes "last " ++ line_of z) same
a_last_line (y ∷ z ∷ xs) x e = a_last_line (z ∷ xs) x e

-- no Step, and no line
pub no_last : (J : List Entry) (out : List ℕ) (sim : Option ℕ) (p : ℕ) → sim ≡ Some p → None ≡ last_of (steps_in (sent J p)) → out ≡ out ++ last_line (steps_at (sent J) sim)
no_last J out sim p is none = sym (ap (λ o. out ++ last_line (steps_at (sent J) o)) is ∙ ap (λ l. out ++ l) (no_last_line (steps_in (sent J p)) (sym none)) ∙ append_nil out)

-- the line of the last Step
pub a_last : {E : Type 0} (r : Result (Unit {0}) E) (J : List Entry) (out put new : List ℕ) (sim : Option ℕ) (p : ℕ) (x : Item) → sim ≡ Some p → Some x ≡ last_of (steps_in (sent J p)) → put ≡ out ++ codes "last " → OnOk r (new ≡ put ++ line_of x) → OnOk r (new ≡ out ++ last_line (steps_at (sent J) sim))
a_last (Ok u) J out put new sim p x is there word line = line ∙ ap (λ l. l ++ line_of x) word ∙ append_assoc out (codes "last ") (line_of x)
    ∙ sym (ap (λ o. out ++ last_line (steps_at (sent J) o)) is ∙ ap (λ l. out ++ l) (a_last_line (steps_in (sent J p)) x (sym there)))
a_last (Err e) J out put new sim p x is there word line = tt

-- one more simulator
pub last_stepped_push : (xs : List (List Item)) (ys found : List Item) → last_stepped (xs ++ ys ∷ []) found ≡ cond (nat_lt 0 (length (steps_in ys))) (steps_in ys) (last_stepped xs found)
last_stepped_push [] ys found = refl
last_stepped_push (x ∷ xs) ys found = last_stepped_push xs ys (cond (nat_lt 0 (length (steps_in x))) (steps_in x) found)
