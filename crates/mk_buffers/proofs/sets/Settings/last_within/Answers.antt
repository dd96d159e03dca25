-- Answers to the goals of `sets::Settings::last_within` that the prover leaves.
use Rattle.std.proofs.Common.{false, ◌+◌, ◌-◌, sym, ap, ◌∙◌, arith, filter, take, ◌≡◌}
use Rattle.mk_buffers_log.specs.Logs.{within}
use Rattle.mk_buffers.specs.Slots.{last_of, last_within}
use Rattle.mk_buffers.proofs.Lasts.{found_back}
use Rattle.mk_buffers.proofs.sets.Settings.last_within.Goals as goal

pub returns-then-counts : goal.returns-then-counts
returns-then-counts c =
    let test = within false c.args.previous c.args.at in
    let items = c.self.inside.kept.items in
    let place : c.loop-place.place ≡ (c.loop-place.place - 1) + 1 = omega (arith, c.loop-place-test.true) in
    sym (ap (last_within c.args.previous c.args.at) (sym c.self.view_is) ∙ c.loop-place.invariant.1 ∙ ap (λ n. last_of (filter test (take n items))) place
    ∙ found_back test items (c.loop-place.place - 1) c.index-setting.result.now (omega (arith, c.loop-place-test.true, c.loop-place.invariant.0)) c.index-setting.ensures (sym c.counts.ensures ∙ c.if-counts.true))
