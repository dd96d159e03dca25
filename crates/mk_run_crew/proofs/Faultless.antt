-- Where each simulator runs within the program, the requests of a handshake are answered.
use Rattle.std.proofs.Common.{◌≡◌, true, List}
use Rattle.mk_plan.specs.declared.Message.{Message}
use Rattle.mk_plan.specs.declared.Plan.{Plan}
use Rattle.mk_setup.specs.Handshakes.{IsMade}
use Rattle.mk_run_crew.specs.Answered.{IsAnswered}
use Rattle.mk_run_crew.specs.Answers.{AreKindAnswers}
use Rattle.mk_run_crew.specs.Attempts.{Attempt}
use Rattle.mk_run_crew.specs.Wholly.{is_wholly_within}
use Rattle.mk_run_crew.proofs.Unlinked.{never_linked}

pub answered_within : (A : Attempt) (answers : List Message) (P : Plan) → is_wholly_within A.scenario ≡ true → IsMade A.scenario A.ranks answers P → AreKindAnswers A.rows A.scenario answers → IsAnswered A
answered_within A answers P all made kinds = record {
  answers = answers;
  plan = P;
  made = made;
  kinds = kinds;
  links = λ i l e. absurd (never_linked A.started A.scenario all i l e);
}
