-- Answers to the goals of `quotes::put_escaped` that the prover leaves.
use Rattle.std.proofs.Common.{◌≡◌, [], ◌∷◌, ◌++◌, ap, ◌∙◌}
use Rattle.json.specs.Token.{Token}
use Rattle.mk_base.specs.Texts.{quoted}
use Rattle.mk_json.proofs.Compact.{appended_text}
use Rattle.mk_json.proofs.quotes.put_escaped.Goals as goal

pub returns-clause-ok : goal.returns-clause-ok
returns-clause-ok c =
    let written : c.into_inner.result.items ≡ quoted c.args.text.now = appended_text [] c.into_inner.result.items c.string.new.self.before c.new-writer.result.tokens c.string.new.self.tokens c.args.text.now
    c.new-writer.ensures.tokens (c.string.ensures.room.0 ∙ c.new-writer.ensures.before ∙ c.new.ensures.items) (c.in_ok-string.ensures.ok ∙ ap (λ s. c.new-writer.result.tokens ++ Token.string s ∷ []) c.as_str.ensures) c.into_inner.ensures.items in
    c.in_ok-extend_from_slice.ensures.items ∙ ap (λ l. c.args.out.now.items ++ l) (c.as_slice.ensures.value ∙ written)
