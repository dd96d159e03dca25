-- Answers to the goals of `migrating::record_has_one_migration` that the prover leaves.
use Rattle.mosaikrun_records.proofs.OneMigration.{one_migration}
use Rattle.mosaikrun_records.proofs.migrating.record_has_one_migration.Goals as goal

pub returns : goal.returns
returns c = one_migration
