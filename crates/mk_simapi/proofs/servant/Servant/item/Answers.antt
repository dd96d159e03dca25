-- Answers to the goals of `servant::Servant::item` that the prover leaves.
use Rattle.std.proofs.Common.{◌≡◌, true, sym, subst}
use Rattle.mk_plan.specs.declared.Message.{Message}
use Rattle.mk_run_local.specs.inner.Standing.{IsFit}
use Rattle.mk_run_local.proofs.Numbers.{item_fit}
use Rattle.mk_simapi.proofs.Ranges.{item_fits, unknown_fits}
use Rattle.mk_simapi.proofs.servant.Servant.item.Goals as goal
use Rattle.mk_simapi.proofs.servant.Servant.item.Goals.{in-Some+in_ok-reply-in-Some, in-None+in_ok-reply-in-None}
use Rattle.mk_plan.specs.Messages.{is_message_in_range}

pub invariant_of-self-in-Some : goal.invariant_of-self-in-Some
invariant_of-self-in-Some g c = subst IsFit (sym c.in_ok-reply-in-Some.ensures.after) (item_fit c.self.inside.sim c.in-Some.item c.self.invariant)

pub write-requires : goal.write-requires
write-requires g c = elim c.match-item.branch [
  | in-Some+in_ok-reply-in-Some w ↦ subst (λ (m : Message). is_message_in_range m ≡ true) (sym w.reply-is) (item_fits c.self.inside.sim c.args.id w.in-Some.item w.in_ok-reply-in-Some.reply c.self.invariant w.in_ok-reply-in-Some.ensures.reply)
  | in-None+in_ok-reply-in-None w ↦ subst (λ (m : Message). is_message_in_range m ≡ true) (sym w.reply-is) (unknown_fits c.args.id w.in_ok-reply-in-None.reply w.in_ok-reply-in-None.ensures)
]
