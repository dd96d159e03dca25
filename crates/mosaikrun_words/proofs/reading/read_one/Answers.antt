-- Answers to the goals of `reading::read_one` that the prover leaves.
use Rattle.std.proofs.Common.{[], ◌∷◌, codes}
use Rattle.clap.specs.Words.{app_of, first_value, found_of}
use Rattle.mosaikrun_words.specs.inner.Apps.{one_app}
use Rattle.mosaikrun_words.proofs.Gives.{is_first, is_taken, is_there, is_value_where_ok, one_gives}
use Rattle.mosaikrun_words.proofs.reading.read_one.Goals as goal

pub read-requires : goal.read-requires
read-requires c = is_taken (app_of c.in_ok-one_command.field-0) one_app (c.args.word.now ∷ []) (codes "first") c.args.word.now c.in_ok-one_command.ensures.shape (one_gives c.args.word.now c.requires)

pub value_of-requires : goal.value_of-requires
value_of-requires c = is_there (app_of c.in_ok-one_command.field-0) one_app (c.args.word.now ∷ []) (codes "first") c.args.word.now c.in_ok-one_command.ensures.shape (one_gives c.args.word.now c.requires) c.in_ok-matches.matches c.in_ok-matches.ensures

pub returns : goal.returns
returns c = is_value_where_ok c.value_of.result (first_value (found_of c.in_ok-matches.matches) (codes "first")) c.args.word.now
    (is_first (app_of c.in_ok-one_command.field-0) one_app (c.args.word.now ∷ []) (codes "first") c.args.word.now c.in_ok-one_command.ensures.shape (one_gives c.args.word.now c.requires) c.in_ok-matches.matches c.in_ok-matches.ensures)
    c.value_of.ensures
