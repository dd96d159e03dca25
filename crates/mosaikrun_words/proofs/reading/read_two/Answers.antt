-- Answers to the goals of `reading::read_two` that the prover leaves.
use Rattle.std.proofs.Common.{◌≡◌, [], ◌∷◌, codes}
use Rattle.clap.specs.Words.{app_of}
use Rattle.mosaikrun_words.specs.inner.Apps.{two_app}
use Rattle.mosaikrun_words.proofs.Gives.{is_taken, is_there, is_value_given, two_gives}
use Rattle.mosaikrun_words.proofs.reading.read_two.Goals as goal

pub read-requires : goal.read-requires
read-requires c = is_taken (app_of c.in_ok-two_command.field-0) two_app (c.args.first.now ∷ c.args.second.now ∷ []) (codes "first") c.args.first.now c.in_ok-two_command.ensures.shape (two_gives c.args.first.now c.args.second.now c.requires.first c.requires.second).0

pub value_of-requires : goal.value_of-requires
value_of-requires c = is_there (app_of c.in_ok-two_command.field-0) two_app (c.args.first.now ∷ c.args.second.now ∷ []) (codes "first") c.args.first.now c.in_ok-two_command.ensures.shape (two_gives c.args.first.now c.args.second.now c.requires.first c.requires.second).0 c.in_ok-matches.matches c.in_ok-matches.ensures

pub value_of-requires-2 : goal.value_of-requires-2
value_of-requires-2 c = is_there (app_of c.in_ok-two_command.field-0) two_app (c.args.first.now ∷ c.args.second.now ∷ []) (codes "second") c.args.second.now c.in_ok-two_command.ensures.shape (two_gives c.args.first.now c.args.second.now c.requires.first c.requires.second).1 c.in_ok-matches.matches c.in_ok-matches.ensures

pub returns : goal.returns
returns c =
    let first_is : c.in_ok-value_of.field-0 ≡ c.args.first.now = is_value_given (app_of c.in_ok-two_command.field-0) two_app (c.args.first.now ∷ c.args.second.now ∷ []) (codes "first") c.args.first.now c.in_ok-two_command.ensures.shape (two_gives c.args.first.now c.args.second.now c.requires.first c.requires.second).0 c.in_ok-matches.matches c.in_ok-matches.ensures c.in_ok-value_of.field-0 c.in_ok-value_of.ensures in
    let second_is : c.in_ok-value_of-2.field-0 ≡ c.args.second.now = is_value_given (app_of c.in_ok-two_command.field-0) two_app (c.args.first.now ∷ c.args.second.now ∷ []) (codes "second") c.args.second.now c.in_ok-two_command.ensures.shape (two_gives c.args.first.now c.args.second.now c.requires.first c.requires.second).1 c.in_ok-matches.matches c.in_ok-matches.ensures c.in_ok-value_of-2.field-0 c.in_ok-value_of-2.ensures in
    cc
