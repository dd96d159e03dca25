-- Answers to the goals of `numbers::number` that the prover leaves.
use Rattle.std.proofs.Common.{◌∙◌, refl, ap, arith, ◌≡◌, ◌++◌, ◌∷◌, []}
use Rattle.std.specs.String.{string_bytes}
use Rattle.mk_connect_pairs.specs.inner.Lookups.{is_key}
use Rattle.mk_connect_pairs.proofs.Numbering.{appended}
use Rattle.mk_connect_pairs.proofs.numbers.number.Goals as goal

pub returns-in_ok-insert-in-Ok : goal.returns-in_ok-insert-in-Ok
returns-in_ok-insert-in-Ok c =
    let same : c.in-Ok.place ≡ c.args.place = omega (arith, c.in-Ok.ensures) in
    c.in_ok-insert-in-Ok.ensures.entries ∙ appended _ (is_key c.args.key.0 (string_bytes c.args.key.1)) c.args.key (λ b. refl) c.args.numbers.now.entries c.in-Ok.place c.requires
    ∙ ap (λ n. c.args.numbers.now.entries ++ (c.args.key, n) ∷ []) same
