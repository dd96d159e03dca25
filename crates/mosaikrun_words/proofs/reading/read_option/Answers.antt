-- Answers to the goals of `reading::read_option` that the prover leaves.
use Rattle.std.proofs.Common.{◌≡◌, [], ◌∷◌, codes}
use Rattle.clap.specs.Words.{app_of}
use Rattle.mosaikrun_words.specs.inner.Apps.{option_app}
use Rattle.mosaikrun_words.proofs.Gives.{is_taken, is_there, is_value_given, option_gives_so}
use Rattle.mosaikrun_words.proofs.reading.read_option.Goals as goal

pub read-requires : goal.read-requires
read-requires c = is_taken (app_of c.in_ok-option_command.field-0) (option_app c.args.name.now) (c.args.word.now ∷ c.args.spelled.now ∷ c.args.value.now ∷ []) (codes "first") c.args.word.now c.in_ok-option_command.ensures.shape (option_gives_so c.args.option c.args.name.now c.args.spelled.now c.args.word.now c.args.value.now c.requires.name c.requires.spelled c.requires.word c.requires.value).0

pub value_of-requires : goal.value_of-requires
value_of-requires c = is_there (app_of c.in_ok-option_command.field-0) (option_app c.args.name.now) (c.args.word.now ∷ c.args.spelled.now ∷ c.args.value.now ∷ []) (codes "first") c.args.word.now c.in_ok-option_command.ensures.shape (option_gives_so c.args.option c.args.name.now c.args.spelled.now c.args.word.now c.args.value.now c.requires.name c.requires.spelled c.requires.word c.requires.value).0 c.in_ok-matches.matches c.in_ok-matches.ensures

pub value_of-requires-2 : goal.value_of-requires-2
value_of-requires-2 c = is_there (app_of c.in_ok-option_command.field-0) (option_app c.args.name.now) (c.args.word.now ∷ c.args.spelled.now ∷ c.args.value.now ∷ []) c.args.name.now c.args.value.now c.in_ok-option_command.ensures.shape (option_gives_so c.args.option c.args.name.now c.args.spelled.now c.args.word.now c.args.value.now c.requires.name c.requires.spelled c.requires.word c.requires.value).1 c.in_ok-matches.matches c.in_ok-matches.ensures

pub returns : goal.returns
returns c =
    let word_is : c.in_ok-value_of.field-0 ≡ c.args.word.now = is_value_given (app_of c.in_ok-option_command.field-0) (option_app c.args.name.now) (c.args.word.now ∷ c.args.spelled.now ∷ c.args.value.now ∷ []) (codes "first") c.args.word.now c.in_ok-option_command.ensures.shape (option_gives_so c.args.option c.args.name.now c.args.spelled.now c.args.word.now c.args.value.now c.requires.name c.requires.spelled c.requires.word c.requires.value).0 c.in_ok-matches.matches c.in_ok-matches.ensures c.in_ok-value_of.field-0 c.in_ok-value_of.ensures in
    let value_is : c.in_ok-value_of-2.field-0 ≡ c.args.value.now = is_value_given (app_of c.in_ok-option_command.field-0) (option_app c.args.name.now) (c.args.word.now ∷ c.args.spelled.now ∷ c.args.value.now ∷ []) c.args.name.now c.args.value.now c.in_ok-option_command.ensures.shape (option_gives_so c.args.option c.args.name.now c.args.spelled.now c.args.word.now c.args.value.now c.requires.name c.requires.spelled c.requires.word c.requires.value).1 c.in_ok-matches.matches c.in_ok-matches.ensures c.in_ok-value_of-2.field-0 c.in_ok-value_of-2.ensures in
    cc
