-- Answers to the goals of `values::tables_within` that the prover leaves.
use Rattle.std.proofs.Common.{◌≡◌, ◌∙◌, ℕ, nat_le, ◌&&◌, List, length, Result, Ok, IfErr, inl, inr, sym, ap, subst}
use Rattle.std.proofs.lemmas.Result.{err_from_is_err_and}
use Rattle.std.specs.Fmt.{decimal}
use Rattle.mk_base.specs.declared.json.Json.{Json}
use Rattle.mk_base.specs.Verdicts.{held, passed}
use Rattle.mk_scenario_keys.specs.Keys as keys
use Rattle.mk_scenario_keys.specs.Tests.{IsFaultOf, each_at, item_in}
use Rattle.mk_scenario_keys.specs.declared.fault.ScenarioFault.{ScenarioFault}
use Rattle.mk_scenario_keys.specs.declared.fault.ScenarioFault.TheVariants.{OutOfRange}
use Rattle.mk_scenario_keys.proofs.values.tables_within.Goals as goal

-- a fault of some item is the list's
refused : (least most : ℕ) (path : List ℕ) (value : Json) (items : List Json) (fault : ScenarioFault) → keys.items path value ≡ Ok items
    → IsFaultOf (each_at (λ (i : ℕ) (item : Json). keys.table (item_in path i) item) items) fault → IsFaultOf (keys.tables_within least most path value) fault
refused least most path value items fault is (inl want) = inl want
refused least most path value items fault is (inr wrong) = inr (ap listed is ∙ ap counted wrong)
  where
    counted : Result (List Json) ScenarioFault → Result (List Json) ScenarioFault
    counted tables = passed tables (λ (all : List Json). held (OutOfRange path (decimal (length all))) (nat_le least (length all) && nat_le (length all) most) (Ok all))

    listed : Result (List Json) ScenarioFault → Result (List Json) ScenarioFault
    listed all = passed all (λ (members : List Json). counted (each_at (λ (i : ℕ) (item : Json). keys.table (item_in path i) item) members))

pub returns-in_err-all_tables-clause-refused : goal.returns-in_err-all_tables-clause-refused
returns-in_err-all_tables-clause-refused c =
    let e = err_from_is_err_and c.from_residual-in_err-all_tables.result c.from_residual-in_err-all_tables.ensures.1 in
    let whole = refused c.args.least c.args.most c.args.path.now c.args.value.now _ _ (c.in_ok-items.ensures.ok ∙ ap Ok (sym c.as_slice-items.ensures)) c.in_err-all_tables.ensures.refused in
    subst (λ (r : Result _ ScenarioFault). IfErr r (IsFaultOf (keys.tables_within c.args.least c.args.most c.args.path.now c.args.value.now))) (sym e.1) (subst (IsFaultOf (keys.tables_within c.args.least c.args.most c.args.path.now c.args.value.now)) (sym e.2) whole)
