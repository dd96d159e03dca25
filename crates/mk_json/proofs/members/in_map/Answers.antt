-- Answers to the goals of `members::in_map` that the prover leaves.
use Rattle.std.proofs.Common.{◌≡◌, string_bytes, sym, ap, ap₂, ◌∙◌, rules}
use Rattle.std.specs.Ordering.{nat_cmp}
use Rattle.std.specs.Cmp.Lexicographic.{slice_cmp}
use Rattle.std.specs.BTreeMap.{insert_entry}
use Rattle.mk_json.specs.inner.Gathered.{put_all, named}
use Rattle.mk_json.proofs.Gathering.{named-insert_entry}
use Rattle.mk_json.proofs.members.in_map.Goals as goal
use Rattle.mk_base.proofs.Items.{none_left}

pub loop-name-init : goal.loop-name-init
loop-name-init c = ap₂ put_all (ap named c.new-found.ensures.empty) (c.into_iter-name-iterator.ensures.into_iter_gives.0 ∙ c.into_vec-name-items.ensures)

pub loop-name-preserved : goal.loop-name-preserved
loop-name-preserved c =
    let l = c.loop-name in
    let rest = c.next.new.self.rest.items in
    let copied : string_bytes c.in_ok-key.key ≡ c.in-Some.name = search rules in
    let put = ap named c.in_ok-insert.ensures.entries ∙ named-insert_entry l.found.entries c.in_ok-key.key c.in-Some.tree
    ∙ ap (λ k. insert_entry (slice_cmp nat_cmp) (named l.found.entries) k c.in-Some.tree) copied in
    ap (λ es. put_all es rest) put ∙ ap (put_all (named l.found.entries)) (sym c.in-Some.ensures.steps.0) ∙ l.invariant

pub returns : goal.returns
returns c =
    let l = c.loop-name in
    ap (put_all (named l.found.entries)) (sym (none_left l.name-iterator.rest.items l.name-iterator.rest.len l.name-iterator.rest.ok.0 c.in-None.ensures.steps.0)) ∙ l.invariant
