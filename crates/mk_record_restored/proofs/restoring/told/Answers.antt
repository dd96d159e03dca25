-- Answers to the goals of `restoring::told` that the prover leaves.
use Rattle.std.proofs.Common.{sym, subst}
use Rattle.mk_record_compare.specs.Differences.{IsOther}
use Rattle.mk_record_restored.specs.Restored.{RestoresAs}
use Rattle.mk_record_restored.proofs.restoring.told.Goals as goal

pub returns-in-None : goal.returns-in-None
returns-in-None c = λ P A asks plan restored other. record {
  plan = plan;
  going = c.requires;
  restored = restored;
  same = subst (IsOther A asks c.args.core.entries) c.in-None.is other;
}

pub returns-in-Some : goal.returns-in-Some
returns-in-Some c = λ P A asks plan restored other. subst (RestoresAs P A asks) (sym c.given_up.ensures) (record { journal = c.args.core.entries; restored = restored; other = subst (IsOther A asks c.args.core.entries) c.in-Some.is other })
