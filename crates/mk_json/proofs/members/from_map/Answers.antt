-- Answers to the goals of `members::from_map` that the prover leaves.
use Rattle.std.proofs.Common.{ℕ, List, [], ◌∷◌, ◌++◌, String, Global, sym, ap, ap₂, ◌∙◌, subst, append_assoc}
use Rattle.mk_base.specs.declared.json.Json.{Json}
use Rattle.mk_json.specs.inner.Gathered.{named}
use Rattle.mk_json.proofs.Gathering.{Rises, all_done, sorted-named, named-append}
use Rattle.mk_json.proofs.members.from_map.Goals as goal

pub loop-name-init : goal.loop-name-init
loop-name-init c = ([], sym c.into_iter-name-iterator.ensures.into_iter_gives.0, c.in_ok-found.ensures)

pub loop-name-preserved : goal.loop-name-preserved
loop-name-preserved c =
    let l = c.loop-name in
    let done = l.invariant.0 in
    let e : String Global × Json = (c.in-Some.name, c.in-Some.tree) in
    let left = c.next.new.self in
    let copied = c.in_ok-of.ensures ∙ c.as_str.ensures.value in (
      done ++ e ∷ [],
      l.invariant.1 ∙ ap (λ es. done ++ es) c.in-Some.ensures.steps ∙ sym (append_assoc done (e ∷ []) left),
      c.in_ok-push.ensures.ok ∙ ap₂ (λ (ms : List (List ℕ × Json)) (k : List ℕ). ms ++ (k, c.in-Some.tree) ∷ []) l.invariant.2 copied ∙ sym (named-append done (e ∷ [])),
    )

pub from_sorted-requires : goal.from_sorted-requires
from_sorted-requires c =
    let whole = all_done c.args.sorted.entries c.loop-name.invariant.0 c.loop-name.name-iterator c.loop-name.invariant.1 c.in-None.ensures.steps.0 in
    subst Rises (ap named whole ∙ sym c.loop-name.invariant.2) (sorted-named c.args.sorted.entries c.into_iter-name-iterator.ensures.into_iter_gives.5)

pub returns : goal.returns
returns c =
    let whole = all_done c.args.sorted.entries c.loop-name.invariant.0 c.loop-name.name-iterator c.loop-name.invariant.1 c.in-None.ensures.steps.0 in
    c.from_sorted.ensures ∙ c.loop-name.invariant.2 ∙ ap named (sym whole)
