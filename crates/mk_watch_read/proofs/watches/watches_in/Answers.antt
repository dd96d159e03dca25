-- Answers to the goals of `watches::watches_in` that the prover leaves.
use Rattle.std.proofs.Common.{◌≡◌, ◌<◌, ◌≤◌, IfErr, Result, length, ◌+◌, List, arith, sym, subst}
use Rattle.std.proofs.lemmas.Result.{err_from_is_err_and}
use Rattle.mk_plan.specs.declared.Plan.{Plan}
use Rattle.mk_plan_names.specs.Names.{AreNamesOf}
use Rattle.mk_watch_read.specs.Rules.{names_in}
use Rattle.mk_watch_read.specs.Watches as watches
use Rattle.mk_watch_read.specs.declared.fault.WatchFault.{WatchFault}
use Rattle.mk_watch_read.specs.declared.watches.Watch.{Watch}
use Rattle.mk_watch_read.proofs.Gathered.{IsGathered, gathered_all, gathered_more, gathered_fault}
use Rattle.mk_watch_read.proofs.watches.watches_in.Goals as goal

pub returns-in_err-watch_in-clause-refused : goal.returns-in_err-watch_in-clause-refused
returns-in_err-watch_in-clause-refused g c =
    let e = err_from_is_err_and c.from_residual.result c.from_residual.ensures.1 in
    let low : c.loop-i.i < length c.args.tables.now = omega arith in
    let fault = c.in_err-watch_in.field-0.0 in
    let Is : WatchFault → Type 0 = λ x. (P : Plan) → AreNamesOf P c.args.names.now → watches.IsFaultOf (watches.watches_in P (names_in c.args.rules.now) c.args.tables.now) x in
    let here : Is fault = λ P are. gathered_fault P (names_in c.args.rules.now) c.args.tables.now c.loop-i.i c.loop-i.found c.index-tables-i.result low c.index-tables-i.is (c.loop-i.invariant P are) fault (c.in_err-watch_in.ensures.refused P are) in
    let same : fault ≡ e.0 = sym e.2 in
    subst (λ (r : Result (List Watch) WatchFault). IfErr r Is) (sym e.1) (subst Is same here)

pub loop-i-preserved : goal.loop-i-preserved
loop-i-preserved g c = λ P are.
    let low : c.loop-i.i < length c.args.tables.now = omega arith in
    subst (IsGathered P (names_in c.args.rules.now) c.args.tables.now (c.loop-i.i + 1)) (sym c.in_ok-push.ensures.ok)
    (gathered_more P (names_in c.args.rules.now) c.args.tables.now c.loop-i.i c.loop-i.found c.index-tables-i.result low c.index-tables-i.is (c.loop-i.invariant P are) c.in_ok-watch_in.field-0 (c.in_ok-watch_in.ensures.ok P are))

pub returns-clause-ok : goal.returns-clause-ok
returns-clause-ok g c = λ P are.
    let end : length c.args.tables.now ≤ c.loop-i.i = omega arith in
    gathered_all P (names_in c.args.rules.now) c.args.tables.now c.loop-i.i c.loop-i.found end (c.loop-i.invariant P are)
