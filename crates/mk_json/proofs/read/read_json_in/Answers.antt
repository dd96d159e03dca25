-- Answers to the goals of `read::read_json_in` that the prover leaves.
use Rattle.std.proofs.Common.{◌≡◌, ◌≤◌, true, Some, sym, ap, ◌∙◌, subst}
use Rattle.std.proofs.lemmas.Result.{IfOk-weaker}
use Rattle.std.specs.Str.{IsUtf8}
use Rattle.mk_base.specs.declared.json.Json.{Json}
use Rattle.mk_base.specs.Trees.{is_in_range, nesting}
use Rattle.serde_json.specs.Read.{read}
use Rattle.mk_json.specs.Parsed.{parsed}
use Rattle.mk_json.proofs.Values.{IsRead, parsed-read, parsed_none, in_range-read, nesting-read}
use Rattle.mk_json.proofs.read.read_json_in.Goals as goal

pub returns-in-Ok-clause-ok : goal.returns-in-Ok-clause-ok
returns-in-Ok-clause-ok c =
    let same = c.in-Ok.ensures.cases.0 in
    IfOk-weaker c.read_text.result (IsRead c.in-Ok.text.now) (λ (t : Json). parsed c.args.bytes.now ≡ Some t) (λ t w. ap parsed (sym same) ∙ parsed-read c.in-Ok.text.now t (subst IsUtf8 (sym same) c.in-Ok.ensures.cases.1) w) c.read_text.ensures.ok

pub returns-in-Ok-clause-refused : goal.returns-in-Ok-clause-refused
returns-in-Ok-clause-refused c = λ e. parsed_none c.args.bytes.now (λ _. ap read (sym c.in-Ok.ensures.cases.0) ∙ c.read_text.ensures.refused e)

pub returns-in-Ok-clause-in_range : goal.returns-in-Ok-clause-in_range
returns-in-Ok-clause-in_range c = IfOk-weaker c.read_text.result (IsRead c.in-Ok.text.now) (λ (t : Json). is_in_range t ≡ true) (in_range-read c.in-Ok.text.now) c.read_text.ensures.ok

pub returns-in-Ok-clause-nests : goal.returns-in-Ok-clause-nests
returns-in-Ok-clause-nests c = IfOk-weaker c.read_text.result (IsRead c.in-Ok.text.now) (λ (t : Json). nesting t ≤ 127) (nesting-read c.in-Ok.text.now) c.read_text.ensures.ok

pub returns-in-Err-clause-refused : goal.returns-in-Err-clause-refused
returns-in-Err-clause-refused c = λ _. parsed_none c.args.bytes.now (λ text. absurd (c.in-Err.ensures.cases.0 text))
