-- The text of a table, part by part.
use Rattle.std.proofs.Common.{◌≡◌, ℕ, ◌+◌, ◌<◌, List, [], ◌∷◌, ◌++◌, take, get_or, length, flat_map, Option, Some, slice_get, unwrap_or, option_map, codes, OnOk, Result, Ok, Err, sym, ap, ◌∙◌, append_assoc}
use Rattle.std.proofs.lemmas.List.{take_more}
use Rattle.mk_base.proofs.Lists.{append_nil, flat_map_append}
use Rattle.mk_plan.specs.declared.Plan.{Plan}
use Rattle.mk_plan.specs.declared.PlanEntity.{PlanEntity}
use Rattle.mk_plan.specs.declared.Item.{Item}
use Rattle.mk_plan.specs.Plans.{full_id, sim_id, owner, eid_of}
use Rattle.mk_watch_read.specs.declared.rule.Fold.{Fold}
use Rattle.mk_watch_read.specs.declared.rule.Fold.TheVariants.{Sum}
use Rattle.mk_watch_read.specs.declared.watches.Watch.{Watch}
use Rattle.mk_watch.specs.Values.{rows_of}
use Rattle.mk_watch.specs.Tables.{head_text, rows_text, table_text, watch_text, tables_text}

pub on_ok : {T E P Q : Type 0} (r : Result T E) → (P → Q) → OnOk r P → OnOk r Q
on_ok (Ok x) f p = f p
on_ok (Err e) f p = p

-- the head, and then the rows
pub table_is : (P : Plan) (w : Watch) (i : ℕ) (n : PlanEntity) (name : List ℕ) (f : Fold) (xs : List Item) (before mid new : List ℕ) → i ≡ owner P w.entity → slice_get P.entities w.entity ≡ Some n
    → mid ≡ before ++ head_text (sim_id P i ++ codes "." ++ n.eid) w.attr name → new ≡ mid ++ rows_text f (rows_of f n.eid w.attr xs)
    → new ≡ before ++ table_text (full_id P w.entity) w.attr name f (rows_of f (eid_of P w.entity) w.attr xs)
table_is P w i n name f xs before mid new own there head rows =
    let eid : n.eid ≡ eid_of P w.entity = sym (ap (λ (o : Option PlanEntity). unwrap_or (option_map (λ m. m.eid) o) []) there) in
    rows ∙ ap (λ (l : List ℕ). l ++ rows_text f (rows_of f n.eid w.attr xs)) head
    ∙ append_assoc before (head_text (sim_id P i ++ codes "." ++ n.eid) w.attr name) (rows_text f (rows_of f n.eid w.attr xs))
    ∙ ap (λ j. before ++ table_text (sim_id P j ++ codes "." ++ n.eid) w.attr name f (rows_of f n.eid w.attr xs)) own
    ∙ ap (λ (e : List ℕ). before ++ table_text (sim_id P (owner P w.entity) ++ codes "." ++ e) w.attr name f (rows_of f e w.attr xs)) eid

-- the rule at the watch's place, and what the entity's simulator was sent
pub watch_is : (P : Plan) (names : List (List ℕ)) (folds : List Fold) (items : ℕ → List Item) (w : Watch) (name : List ℕ) (f : Fold) (xs : List Item) → slice_get names w.rule ≡ Some name → slice_get folds w.rule ≡ Some f → xs ≡ items (owner P w.entity)
    → table_text (full_id P w.entity) w.attr name f (rows_of f (eid_of P w.entity) w.attr xs) ≡ watch_text P names folds items w
watch_is P names folds items w name f xs named folded same =
    ap (λ (l : List Item). table_text (full_id P w.entity) w.attr name f (rows_of f (eid_of P w.entity) w.attr l)) same
    ∙ ap (λ (o : Option (List ℕ)). table_text (full_id P w.entity) w.attr (unwrap_or o []) f (rows_of f (eid_of P w.entity) w.attr (items (owner P w.entity)))) (sym named)
    ∙ ap (λ (o : Option Fold). table_text (full_id P w.entity) w.attr (unwrap_or (slice_get names w.rule) []) (unwrap_or o Sum) (rows_of (unwrap_or o Sum) (eid_of P w.entity) w.attr (items (owner P w.entity)))) (sym folded)

-- one more table
pub tables_more : (P : Plan) (names : List (List ℕ)) (folds : List Fold) (items : ℕ → List Item) (ws : List Watch) (k : ℕ) (w : Watch) (out new : List ℕ) → k < length ws → w ≡ get_or ws k w → out ≡ tables_text P names folds items (take k ws) → new ≡ out ++ watch_text P names folds items w
    → new ≡ tables_text P names folds items (take (k + 1) ws)
tables_more P names folds items ws k w out new low is before more =
    let text : Watch → List ℕ = watch_text P names folds items in
    more ∙ ap (λ (l : List ℕ). l ++ text w) before
    ∙ sym (ap (flat_map text) (take_more ws k w low ∙ ap (λ v. take k ws ++ v ∷ []) (sym is)) ∙ flat_map_append text (take k ws) (w ∷ []) ∙ ap (λ (l : List ℕ). flat_map text (take k ws) ++ l) (append_nil (text w)))
