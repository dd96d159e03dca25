-- Answers to the goals of `quotes::put_as_it_is` that the prover leaves.
use Rattle.std.proofs.Common.{rules, ◌≡◌, true, [], ◌∷◌, ◌++◌, is_ok, if◌then◌else◌, ap, ◌∙◌}
use Rattle.mk_json.proofs.Quoting.{within_quotes}
use Rattle.mk_json.proofs.quotes.put_as_it_is.Goals as goal

pub returns-clause-ok : goal.returns-clause-ok
returns-clause-ok c =
    let put : is_ok c.extend_from_slice.result ≡ true = search rules in
    let opened : c.push_reserved.new.self.items ≡ c.args.out.now.items ++ 34 ∷ [] = c.push_reserved.ensures.items ∙ ap (λ l. l ++ 34 ∷ []) c.reserve.ensures.items in
    let held : c.extend_from_slice.new.self.items ≡ (c.args.out.now.items ++ 34 ∷ []) ++ c.args.text.now = c.extend_from_slice.ensures.items
    ∙ ap (λ b. if b then c.push_reserved.new.self.items ++ c.args.text.now else c.push_reserved.new.self.items) put ∙ ap (λ l. l ++ c.args.text.now) opened in
    c.push_reserved-2.ensures.items ∙ ap (λ l. l ++ 34 ∷ []) held ∙ within_quotes c.args.out.now.items c.args.text.now c.requires
