-- For proofs alone. What `clap` is given: for each form of commands its positional words and
-- options.
use Rattle.std.specs.Prelude.{true, Some, codes}
use Rattle.clap.specs.Words.{App, Rule, new_app, new_rule, with_rule}
use Rattle.clap.specs.declared.builder.ArgAction.TheVariants.{Set}
use Rattle.mosaikrun_words.specs.Words.{Text}

-- a positional word
abbrev pub positional : Text → Rule
positional id = record (new_rule id) { required = true; action = Some Set }

-- an option with a value
abbrev pub valued : Text → Rule
valued name = record (new_rule name) { long = Some name; action = Some Set }

-- a command line of words alone: no program name before them, no help and no version
abbrev pub bare : App
bare = record (new_app (codes "mosaikrun")) {
  top = record (new_app (codes "mosaikrun")).top {
    no_binary_name = true;
    disable_help_flag = true;
    disable_help_subcommand = true;
    disable_version_flag = true;
  };
}

abbrev pub one_app : App
one_app = with_rule bare (positional (codes "first"))

abbrev pub option_app : Text → App
option_app name = with_rule one_app (valued name)

abbrev pub two_app : App
two_app = with_rule one_app (positional (codes "second"))
