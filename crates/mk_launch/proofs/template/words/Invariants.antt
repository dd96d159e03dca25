-- The invariants and measures of the loops of `template::words`.
use Rattle.std.proofs.Common.{◌≡◌, ◌-◌, ◌≤◌, length}
use denote.Text.{Utf8}
use denote.Shadow.{shadow}
use Rattle.mk_launch.specs.Marks.{marks}
use Rattle.mk_launch.specs.Words.{words_of}
use Rattle.mk_launch.proofs.Finishing.{finish}
use Rattle.mk_launch.proofs.template.words.Given as goal

abbrev pub invariant-loop-front : goal.invariant-loop-front
invariant-loop-front l = record {
  text : shadow (Utf8 l.rest);
  within : length l.rest ≤ length l.text;
  same : l.text ≡ l.template;
  reads : finish l.reader (marks (length l.text - length l.rest) 0 l.rest) ≡ words_of l.template l.port;
}

abbrev pub decreases-loop-front : goal.decreases-loop-front
decreases-loop-front l = length l.rest
