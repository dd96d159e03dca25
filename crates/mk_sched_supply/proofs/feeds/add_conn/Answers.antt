-- Answers to the goals of `feeds::add_conn` that the prover leaves.
use Rattle.std.proofs.Common.{◌≡◌, ◌<◌, refl, sym, ap, ◌∙◌, subst, ℕ, length, List, slice_get, Some, arith}
use Rattle.std.specs.List.Sorted.{IsStrictlySortedBy}
use Rattle.mk_base.specs.Lists.{IsIn}
use Rattle.mk_base.proofs.Lists.{all_at}
use Rattle.mk_plan.specs.declared.Conn.{Conn}
use Rattle.mk_plan.specs.declared.Want.{Want}
use Rattle.mk_plan.specs.Plans.{sim_count}
use Rattle.mk_plan.specs.Turns.{wanted, want_order}
use Rattle.mk_order.proofs.EntityNames.{owner_is_below}
use Rattle.mk_plan_judge.proofs.AtPlaces.{get_some}
use Rattle.mk_plan_judge.proofs.Taken.{wanted_sorted}
use Rattle.mk_sched_supply.specs.inner.Making.{names_of}
use Rattle.mk_sched_supply.proofs.Feeding.{conn_wanted, feeds_kept, feeds_pushed, named_taken}
use Rattle.mk_sched_supply.proofs.feeds.add_conn.Goals as goal

pub returns-in_ok-push : goal.returns-in_ok-push
returns-in_ok-push c =
    let P = c.args.plan.now in
    let conn = c.args.conn.now in
    let s : ℕ = c.owner.result.0 in
    let low : s < sim_count P = subst (λ (i : ℕ). i < sim_count P) (sym c.owner.ensures) (owner_is_below P c.requires.references conn.from (all_at (λ (d : Conn). (d.from < length P.entities) × (d.to < length P.entities)) P.conns c.args.place conn c.requires.references.conns c.requires.there).0) in
    let here = get_some c.args.feeds.now.items s c.index_mut-feed.result.now (omega (arith, low, c.requires.feeds.count)) c.index_mut-feed.ensures.value in
    let wants = (c.requires.feeds.each s c.index_mut-feed.result.now here).wants in
    let name = named_taken P c.args.place conn c.requires.there c.at.result.now c.at.ensures in
    let all : c.as_slice.result.now ≡ wanted P s = c.as_slice.ensures ∙ wants in
    let found = c.place_of-trigger.ensures (subst (IsStrictlySortedBy want_order) (sym all) (wanted_sorted P s))
    (subst (λ (ws : List Want). IsIn (names_of c.at.result.now.eid conn.from_attr) ws) (sym all) (subst (λ (w : Want). IsIn w (wanted P s)) (sym name) (conn_wanted P c.args.place conn c.requires.there s c.owner.ensures))) in
    feeds_pushed P c.args.place conn c.requires.there c.args.feeds.now.items s c.place_of-trigger.result c.index_mut-feed.result.now _ c.owner.ensures c.if-conn.true here refl c.in_ok-push.ensures.items
    (sym (ap (λ (ws : List Want). slice_get ws c.place_of-trigger.result) all) ∙ found ∙ ap Some name) c.requires.feeds

pub returns-else-conn : goal.returns-else-conn
returns-else-conn c = feeds_kept c.args.plan.now c.args.place c.args.conn.now c.requires.there c.args.feeds.now.items c.if-conn.false c.requires.feeds
