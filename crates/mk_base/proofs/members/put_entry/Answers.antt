-- Answers to the goals of `members::put_entry` that the prover leaves.
use Rattle.std.proofs.Common.{◌≡◌, ◌≤◌, ap, sym, ◌∙◌, subst, length}
use Rattle.std.proofs.lemmas.Result.{on_ok_weaker}
use Rattle.mk_base.specs.inner.Lists.{place_under, is_name_at}
use Rattle.mk_base.proofs.Putting.{place_within, put_by_set, put_by_insert}
use Rattle.mk_base.proofs.members.put_entry.Goals as goal

pub insert-requires : goal.insert-requires
insert-requires g c =
    let at : c.place_from_end-place.result ≡ place_under c.args.name c.args.entries.now = c.place_from_end-place.ensures ∙ ap (λ n. place_under n c.as_slice.result.now) c.bytes.ensures.same ∙ ap (place_under c.args.name) c.as_slice.ensures in
    subst (λ n. n ≤ length c.args.entries.now) (sym at) (place_within c.args.name c.args.value c.args.entries.now)

pub returns-then-has_at-clause-ok : goal.returns-then-has_at-clause-ok
returns-then-has_at-clause-ok g c =
    let at : c.place_from_end-place.result ≡ place_under c.args.name c.args.entries.now = c.place_from_end-place.ensures ∙ ap (λ n. place_under n c.as_slice.result.now) c.bytes.ensures.same ∙ ap (place_under c.args.name) c.as_slice.ensures in
    let is : c.has_at.result ≡ is_name_at c.args.name c.args.entries.now c.place_from_end-place.result = c.has_at.ensures ∙ ap (λ n. is_name_at n c.as_slice-2.result.now c.place_from_end-place.result) c.bytes-2.ensures.same ∙ ap (λ es. is_name_at c.args.name es c.place_from_end-place.result) c.as_slice-2.ensures in
    put_by_set c.args.name c.args.value c.args.entries.now c.set.new.self c.place_from_end-place.result at (sym is ∙ c.if-has_at.true) c.set.ensures

pub returns-else-has_at-clause-ok : goal.returns-else-has_at-clause-ok
returns-else-has_at-clause-ok g c =
    let at : c.place_from_end-place.result ≡ place_under c.args.name c.args.entries.now = c.place_from_end-place.ensures ∙ ap (λ n. place_under n c.as_slice.result.now) c.bytes.ensures.same ∙ ap (place_under c.args.name) c.as_slice.ensures in
    let is : c.has_at.result ≡ is_name_at c.args.name c.args.entries.now c.place_from_end-place.result = c.has_at.ensures ∙ ap (λ n. is_name_at n c.as_slice-2.result.now c.place_from_end-place.result) c.bytes-2.ensures.same ∙ ap (λ es. is_name_at c.args.name es c.place_from_end-place.result) c.as_slice-2.ensures in
    on_ok_weaker c.insert.result (put_by_insert c.args.name c.args.value c.args.entries.now c.insert.new.self c.place_from_end-place.result at (sym is ∙ c.if-has_at.false)) c.insert.ensures.ok
