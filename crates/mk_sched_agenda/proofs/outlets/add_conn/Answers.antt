-- Answers to the goals of `outlets::add_conn` that the prover leaves.
use Rattle.std.proofs.Common.{◌<◌, sym, subst, ℕ, refl, length}
use Rattle.mk_base.proofs.Lists.{all_at}
use Rattle.mk_plan.specs.declared.Conn.{Conn}
use Rattle.mk_plan.specs.Plans.{sim_count}
use Rattle.mk_order.proofs.EntityNames.{owner_is_below}
use Rattle.mk_sched_agenda.proofs.Rows.{rows_kept, rows_pushed}
use Rattle.mk_sched_agenda.proofs.outlets.add_conn.Goals as goal

pub returns-in_ok-push : goal.returns-in_ok-push
returns-in_ok-push c =
    let P = c.args.plan.now in
    rows_pushed P c.args.place c.args.conn.now c.requires.there c.args.rows.now.items _ c.owner-then-conn.result.0 c.index_mut.result.now c.push.new.self c.owner-then-conn.ensures c.if-conn.true
    (subst (λ (i : ℕ). i < sim_count P) (sym c.owner-then-conn.ensures) (owner_is_below P c.requires.references c.args.conn.now.from (all_at (λ (d : Conn). (d.from < length P.entities) × (d.to < length P.entities)) P.conns c.args.place c.args.conn.now c.requires.references.conns c.requires.there).0)) (record { conn = c.requires.there; to = c.owner.ensures; via = refl }) c.index_mut.ensures.value c.in_ok-push.ensures.ok c.requires.rows

pub returns-else-conn : goal.returns-else-conn
returns-else-conn c = rows_kept c.args.plan.now c.args.place c.args.conn.now c.requires.there c.args.rows.now.items c.if-conn.false c.requires.rows
