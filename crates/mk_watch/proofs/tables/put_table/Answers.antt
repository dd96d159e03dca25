-- Answers to the goals of `tables::put_table` that the prover leaves.
use Rattle.std.proofs.Common.{◌≡◌, ◌∙◌, ◌++◌, ◌<◌, List, ℕ, ap, arith, length, map}
use Rattle.mk_plan.specs.Journals.{sent}
use Rattle.mk_plan.specs.Plans.{sim_count, owner}
use Rattle.mk_order.proofs.EntityNames.{owner_is_below}
use Rattle.mk_watch_read.specs.Rules.{folds_in, names_in}
use Rattle.mk_watch.proofs.Written.{on_ok, watch_is}
use Rattle.mk_watch.proofs.Shared.{share_there}
use Rattle.mk_watch.proofs.tables.put_table.Goals as goal

pub returns : goal.returns
returns g c = λ J are.
    let P = c.args.plan.now in
    let w = c.args.watch.now in
    let rule = c.at-rule.result.now in
    let own : c.owner-sim.result.0 ≡ owner P w.entity = c.owner-sim.ensures in
    let low : c.owner-sim.result.0 < length c.args.shares.now = let below = owner_is_below P c.requires.references w.entity c.requires.entity in let count = c.requires.shares in omega (arith, below, count, own) in
    let share : map (λ x. x.now) c.index-shares-sim.result.items ≡ sent J c.owner-sim.result.0 = share_there (λ s. map (λ x. x.now) s.items) (sim_count P) J c.args.shares.now c.owner-sim.result.0 c.index-shares-sim.result low c.index-shares-sim.is are in
    let items : map (λ x. x.now) c.as_slice.result.now ≡ sent J (owner P w.entity) = ap (map (λ x. x.now)) c.as_slice.ensures.value ∙ share ∙ ap (sent J) own in
    let same = watch_is P (names_in c.args.rules.now) (folds_in c.args.rules.now) (sent J) w rule.name rule.fold (map (λ x. x.now) c.as_slice.result.now) c.at-rule.ensures.name c.at-rule.ensures.fold items in
    on_ok c.put_watched.result (λ text. text ∙ ap (λ (l : List ℕ). c.args.out.now.items ++ l) same) (c.put_watched.ensures own)
