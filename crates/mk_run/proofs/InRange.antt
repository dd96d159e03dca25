-- A reply within the program has whole numbers in range.
use Rattle.std.proofs.Common.{◌≡◌, true, sym, subst}
use Rattle.mk_plan.specs.declared.Message.{Message}
use Rattle.mk_run_local.specs.Calls.{IsFitSuccess}
use Rattle.mk_plan.specs.Messages.{is_message_in_range}

pub success_in_range : (m : Message) → IsFitSuccess m → is_message_in_range m ≡ true
success_in_range m fit = subst (λ (n : Message). is_message_in_range n ≡ true) (sym fit.is) fit.range
