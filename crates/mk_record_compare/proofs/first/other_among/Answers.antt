-- Answers to the goals of `first::other_among` that the prover leaves.
use Rattle.std.proofs.Common.{◌+◌, ap, ◌∙◌, inl, inr, arith}
use Rattle.std.specs.Prelude.{option_map}
use Rattle.mk_record_compare.proofs.Named.{walked_neither, walked_step, walked_message, walked_another, walked_behind, walked_now, walked_all, walked_short}
use Rattle.mk_record_compare.proofs.first.other_among.Goals as goal
use Rattle.mk_record_compare.proofs.first.other_among.Goals.{in-Neither, in-NextStep, in-NextMessage, else-rest-eq0-via-then-rest-eq0+else-is_empty, else-rest-eq0-via-else-rest-eq0}

pub returns-in-Another : goal.returns-in-Another
returns-in-Another c = walked_another (option_map (λ m. m.now) c.args.messages) c.args.count c.args.entries.now c.args.asks.now c.loop-entry.entry-index c.loop-entry.place c.loop-entry.before c.loop-entry.rest c.loop-entry.steps.now c.entry-item.result
    c.loop-entry.invariant.walked c.loop-entry-test.true c.entry-item.is c.in-Another.ensures

pub returns-in-Behind : goal.returns-in-Behind
returns-in-Behind c = walked_behind (option_map (λ m. m.now) c.args.messages) c.args.count c.args.entries.now c.args.asks.now c.loop-entry.entry-index c.loop-entry.place c.loop-entry.before c.loop-entry.rest c.loop-entry.steps.now c.entry-item.result
    c.loop-entry.invariant.walked c.loop-entry-test.true c.entry-item.is c.in-Behind.ensures

pub loop-entry-preserved : goal.loop-entry-preserved
loop-entry-preserved c =
    let known = option_map (λ m. m.now) c.args.messages in
    let J = c.args.entries.now in
    let asks = c.args.asks.now in
    let i = c.loop-entry.entry-index in
    let l = c.loop-entry in
    elim c.match-match_of.branch [
      | in-Neither w ↦ record {
        walked = walked_now known c.args.count J asks (i + 1) l.place c.match-match_of.place l.before c.match-match_of.before l.rest c.match-match_of.rest l.steps.now c.match-match_of.steps.now w.place-is w.before-is w.rest-is (ap (λ b. b.now) w.steps-is)
            (walked_neither known c.args.count J asks i l.place l.before l.rest l.steps.now c.entry-item.result l.invariant.walked c.loop-entry-test.true c.entry-item.is w.in-Neither.ensures);
        place = omega arith;
        before = omega arith;
      }
      | in-NextStep w ↦ record {
        walked = walked_now known c.args.count J asks (i + 1) (l.place + 1) c.match-match_of.place l.before c.match-match_of.before l.rest c.match-match_of.rest _ c.match-match_of.steps.now w.place-is w.before-is w.rest-is (ap (λ b. b.now) w.steps-is ∙ w.but_first-steps.ensures)
            (walked_step known c.args.count J asks i l.place l.before l.rest l.steps.now c.entry-item.result l.invariant.walked c.loop-entry-test.true c.entry-item.is w.in-NextStep.ensures);
        place = omega arith;
        before = omega arith;
      }
      | in-NextMessage w ↦ record {
        walked = walked_now known c.args.count J asks (i + 1) (l.place + 1) c.match-match_of.place (l.before + 1) c.match-match_of.before _ c.match-match_of.rest l.steps.now c.match-match_of.steps.now w.place-is w.before-is (w.rest-is ∙ w.saturating_sub-rest.ensures) (ap (λ b. b.now) w.steps-is)
            (walked_message known c.args.count J asks i l.place l.before l.rest l.steps.now c.entry-item.result l.invariant.walked c.loop-entry-test.true c.entry-item.is w.in-NextMessage.ensures);
        place = omega arith;
        before = omega arith;
      }
    ]

pub returns-then-is_empty : goal.returns-then-is_empty
returns-then-is_empty c = λ A are. walked_all (option_map (λ m. m.now) c.args.messages) c.args.count c.args.entries.now c.args.asks.now c.loop-entry.entry-index c.loop-entry.place c.loop-entry.before c.loop-entry.rest c.loop-entry.steps.now
    c.loop-entry.invariant.walked c.loop-entry-test.false A are (omega arith) (grind (arith, c.if-is_empty.ensures))

pub returns-else-rest-eq0 : goal.returns-else-rest-eq0
returns-else-rest-eq0 c = λ A are.
    let short = walked_short (option_map (λ m. m.now) c.args.messages) c.args.count c.args.entries.now c.args.asks.now c.loop-entry.entry-index c.loop-entry.place c.loop-entry.before c.loop-entry.rest c.loop-entry.steps.now
    c.loop-entry.invariant.walked c.loop-entry-test.false A are in
    elim c.else-rest-eq0.branch [
      | else-rest-eq0-via-then-rest-eq0+else-is_empty w ↦ short (inr (grind (arith, w.if-is_empty.ensures)))
      | else-rest-eq0-via-else-rest-eq0 w ↦ short (inl (omega (arith, w.if-rest-eq0.false)))
    ]
