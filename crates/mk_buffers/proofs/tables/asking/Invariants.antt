-- The invariants and measures of the loops of `tables::asking`.
use Rattle.mk_buffers.proofs.Asking.{HaveAsked, HavePaired}
use Rattle.mk_buffers.proofs.tables.asking.Given as goal

abbrev pub invariant-loop-conn : goal.invariant-loop-conn
invariant-loop-conn l = HaveAsked l.plan l.conn-index l.conn-items l.asks.items

abbrev pub invariant-loop-place : goal.invariant-loop-place
invariant-loop-place l = HavePaired l.plan l.place l.plan.asyncs l.asks.items
