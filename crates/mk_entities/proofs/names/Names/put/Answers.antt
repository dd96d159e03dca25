-- Answers to the goals of `names::Names::put` that the prover leaves.
use Rattle.std.proofs.Common.{◌≡◌, ◌∙◌, ◌++◌, ◌∷◌, [], ap, ℕ, List}
use Rattle.std.specs.String.{string_eq, string_bytes}
use Rattle.mk_base.specs.Lists.{value_under}
use Rattle.mk_entities.specs.inner.Names.{texts_of}
use Rattle.mk_entities.proofs.Lookups.{value_is, texts_append}
use Rattle.indexmap.proofs.CallerLemmas.{insert_entry-new}
use Rattle.mk_entities.proofs.names.Names.put.Goals as goal

pub returns-clause-ok : goal.returns-clause-ok
returns-clause-ok c =
    let key : string_bytes c.in_ok-key.key ≡ c.args.eid.now = c.in_ok-key.ensures.ok ∙ c.as_str.ensures in
    let none = value_is (string_bytes c.in_ok-key.key) c.self.inside.kept.entries ∙ ap (value_under (string_bytes c.in_ok-key.key)) c.self.view_is ∙ ap (λ k. value_under k c.args.self.now) key ∙ c.requires in
    ap texts_of (c.in_ok-insert.ensures.entries ∙ insert_entry-new string_eq c.self.inside.kept c.in_ok-key.key c.args.number none)
    ∙ texts_append c.self.inside.kept.entries ((c.in_ok-key.key, c.args.number) ∷ [])
    ∙ ap (λ l. l ++ (string_bytes c.in_ok-key.key, c.args.number) ∷ []) c.self.view_is
    ∙ ap (λ (k : List ℕ). let q : List ℕ × ℕ = (k, c.args.number) in c.args.self.now ++ q ∷ []) key
