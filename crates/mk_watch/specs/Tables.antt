-- The text of tables.
use Rattle.std.specs.Prelude.{ℕ, ℤ, List, [], ◌++◌, length, map, flat_map, slice_get, Option, Some, None, unwrap_or, codes}
use Rattle.std.specs.Fmt.{decimal, signed_decimal}
use Rattle.mk_plan.specs.declared.Plan.{Plan}
use Rattle.mk_plan.specs.declared.Item.{Item}
use Rattle.mk_plan.specs.Plans.{full_id, owner, eid_of}
use Rattle.mk_watch_read.specs.declared.rule.Fold.{Fold}
use Rattle.mk_watch_read.specs.declared.rule.Fold.TheVariants.{Sum}
use Rattle.mk_watch_read.specs.declared.watches.Watch.{Watch}
use Rattle.mk_watch.specs.declared.rows.Row.{Row}
use Rattle.mk_watch.specs.Values.{folded, rows_of}

-- the head of a table: the entity's full id, the attribute, the rule's name
abbrev pub head_text : List ℕ → List ℕ → List ℕ → List ℕ
head_text id attr rule = codes "watch " ++ id ++ codes " " ++ attr ++ codes " " ++ rule
    ++ codes "\n"

-- the line of a row: T:K V
abbrev pub row_text : Row → List ℕ
row_text r = signed_decimal r.at.time ++ codes ":" ++ decimal r.at.tier ++ codes " "
    ++ signed_decimal r.value ++ codes "\n"

-- the number of rows, and the value of all their values, if there is a row
abbrev pub total_text : ℕ → Option ℤ → List ℕ
total_text count None = codes "rows 0\n"
total_text count (Some total) = codes "rows " ++ decimal count ++ codes " total "
    ++ signed_decimal total ++ codes "\n"

-- the rows, and the last line
abbrev pub rows_text : Fold → List Row → List ℕ
rows_text f rows = flat_map row_text rows
    ++ total_text (length rows) (folded f (map (λ r. r.value) rows))

-- a table: its head, its rows, its last line
abbrev pub table_text : List ℕ → List ℕ → List ℕ → Fold → List Row → List ℕ
table_text id attr rule f rows = head_text id attr rule ++ rows_text f rows

-- the name and the fold of the rule at a place, from 0; where there is none, no name and the sum,
-- so that any watch has a table: the rule of one that was read is there
abbrev pub name_at : List (List ℕ) → ℕ → List ℕ
name_at names i = unwrap_or (slice_get names i) []

abbrev pub fold_at : List Fold → ℕ → Fold
fold_at folds i = unwrap_or (slice_get folds i) Sum

-- the table of a watch, over what each simulator was sent
abbrev pub watch_text : Plan → List (List ℕ) → List Fold → (ℕ → List Item) → Watch → List ℕ
watch_text P names folds items w = table_text (full_id P w.entity) w.attr (name_at names w.rule)
    (fold_at folds w.rule)
    (rows_of (fold_at folds w.rule) (eid_of P w.entity) w.attr (items (owner P w.entity)))

-- the tables of all watches, in order
abbrev pub tables_text : Plan → List (List ℕ) → List Fold → (ℕ → List Item) → List Watch → List ℕ
tables_text P names folds items watches = flat_map (watch_text P names folds items) watches
