-- The tables of a finished journal are those of sequential execution.
use Rattle.std.proofs.Common.{◌≡◌, ℕ, ◌<◌, List, length, sym, ap, ◌∙◌}
use Rattle.mk_base.proofs.Lists.{all_in, flat_map_same}
use Rattle.mk_plan.specs.declared.Plan.{Plan}
use Rattle.mk_plan.specs.declared.Entry.{Entry}
use Rattle.mk_plan.specs.Plans.{IsValidPlan, owner, full_id, eid_of}
use Rattle.mk_plan.specs.Journals.{got, sent}
use Rattle.mk_plan.specs.Sequential.{run_items}
use Rattle.mk_plan.specs.Agreement.{IsFinished}
use Rattle.mk_order.proofs.EntityNames.{owner_is_below}
use Rattle.mk_watch_read.specs.declared.rule.Fold.{Fold}
use Rattle.mk_watch_read.specs.declared.watches.Watch.{Watch}
use Rattle.mk_watch.specs.Values.{rows_of}
use Rattle.mk_watch_read.specs.Watches.{AreInside}
use Rattle.mk_watch.specs.Tables.{fold_at, name_at, table_text, watch_text, tables_text}
use Rattle.mk_watch.proofs.Gathering.{same_rows}

module _ (P : Plan) (valid : IsValidPlan P) (J : List Entry) (finished : IsFinished P J) (names : List (List ℕ)) (folds : List Fold) where
  one_table : (w : Watch) → w.entity < length P.entities → watch_text P names folds (sent J) w ≡ watch_text P names folds (run_items P (got J)) w
  one_table w low =
      let f = fold_at folds w.rule in
      let eid = eid_of P w.entity in
      let i = owner P w.entity in
      let same : rows_of f eid w.attr (sent J i) ≡ rows_of f eid w.attr (run_items P (got J) i) =
      sym (same_rows f eid w.attr (sent J i)) ∙ ap (rows_of f eid w.attr) (finished i (owner_is_below P valid.well_formed.references w.entity low)).sent in
      ap (table_text (full_id P w.entity) w.attr (name_at names w.rule) f) same

  pub same_tables : (ws : List Watch) → AreInside P (length names) ws → tables_text P names folds (sent J) ws ≡ tables_text P names folds (run_items P (got J)) ws
  same_tables ws inside = flat_map_same (watch_text P names folds (sent J)) (watch_text P names folds (run_items P (got J))) ws (λ w there. one_table w (all_in (λ (v : Watch). (v.entity < length P.entities) × (v.rule < length names)) ws w inside there).0)
