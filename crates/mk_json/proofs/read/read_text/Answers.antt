-- Answers to the goals of `read::read_text` that the prover leaves.
use Rattle.std.proofs.Common.{◌≡◌, [], rules}
use Rattle.json.specs.Lex.{tokens}
use Rattle.json.specs.Json.{value}
use Rattle.mk_json.proofs.Turns.{whole_read}
use Rattle.mk_json.proofs.read.read_text.Goals as goal

pub returns-clause-ok : goal.returns-clause-ok
returns-clause-ok c =
    let none : c.read.new.reader ≡ [] = search rules in
    let w = c.in_ok-tree.ensures.ok in
    (w.0, whole_read (value 127 (tokens c.args.text.now)) w.0 (rw (c.in-Ok.ensures.ok, none) at w.1), w.2)
