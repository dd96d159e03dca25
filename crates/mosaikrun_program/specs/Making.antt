-- What the program has done where its words ask for a command on files, by its answer.
use Rattle.std.specs.Prelude.{◌≡◌, ℕ, List, [], Result}
use Rattle.mosaikrun_words.specs.declared.request.FileCommand.{FileCommand}
use Rattle.mosaikrun_words.specs.declared.request.Request.TheVariants.{Files}
use Rattle.mosaikrun_endings.specs.declared.ending.Ending.{Ending}
use Rattle.mosaikrun_program.specs.Around.{Around}
use Rattle.mosaikrun_program.specs.Answers.{TextAnswer}
use Rattle.mosaikrun_program.specs.Commands.{IsAsked, ComesOfFiles, target_of}

-- the words ask for a command on files, of which this text or ending came; nothing was added to the
-- fleet's log, and its count of faults didn't rise
pub record HasMade (S : Around) (answer : Result (Unit {0}) Ending) : Type 0 where
  pub command : FileCommand
  pub asked : IsAsked S.words (Files command)
  pub text : Result (List ℕ) Ending
  pub made : ComesOfFiles S.folder.files S.outside.kinds S.rules command text
  pub ended : TextAnswer S (target_of command) text answer
  pub log : S.outside.log ≡ []
  pub faults : S.outside.new_faults ≡ S.outside.faults
