-- Answers to the goals of `replaying::open_count` that the prover leaves.
use Rattle.std.proofs.Common.{◌≡◌, ◌≤◌, ◌+◌, arith, sym, ap, ◌∙◌, refl}
use Rattle.mk_plan.specs.Plans.{sim_count}
use Rattle.mk_plan.specs.declared.Plan.{Plan}
use Rattle.mk_record_replay.specs.inner.Loops.{open_ids}
use Rattle.mk_record_replay.proofs.Counting.{ids_within, ids_more, all_ids}
use Rattle.mk_record_replay.proofs.replaying.open_count.Goals as goal

pub loop-number-preserved : goal.loop-number-preserved
loop-number-preserved c = ap (λ n. n + c.open_at-count.result) c.loop-number.invariant ∙ ap (λ n. open_ids c.args.core.now c.loop-number.number + n) c.open_at-count.ensures ∙ sym (ids_more c.args.core.now c.loop-number.number (c.loop-number.number + 1) refl)

pub overflow_add-count : goal.overflow_add-count
overflow_add-count c = let more : c.loop-number.count + c.open_at-count.result ≡ open_ids c.args.core.now (c.loop-number.number + 1) = ap (λ n. n + c.open_at-count.result) c.loop-number.invariant
    ∙ ap (λ n. open_ids c.args.core.now c.loop-number.number + n) c.open_at-count.ensures ∙ sym (ids_more c.args.core.now c.loop-number.number (c.loop-number.number + 1) refl) in
    let within : open_ids c.args.core.now (c.loop-number.number + 1) ≤ c.loop-number.number + 1 = ids_within c.args.core.now (c.loop-number.number + 1) in
    let sims : c.len-sims.result ≡ sim_count c.args.core.now.plan = c.len-sims.ensures ∙ ap (λ (P : Plan). sim_count P) c.plan.ensures in omega arith

pub returns : goal.returns
returns c = let sims : c.len-sims.result ≡ sim_count c.args.core.now.plan = c.len-sims.ensures ∙ ap (λ (P : Plan). sim_count P) c.plan.ensures in
    let all : c.loop-number.number ≡ sim_count c.args.core.now.plan = omega arith in c.loop-number.invariant ∙ ap (open_ids c.args.core.now) all ∙ all_ids c.args.core.now
