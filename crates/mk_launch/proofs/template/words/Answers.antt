-- Answers to the goals of `template::words` that the prover leaves.
use Rattle.std.proofs.Common.{rules, ◌≡◌, ◌-◌, length, arith, ap, ◌∙◌}
use Rattle.mk_launch.specs.Words.{address_at, words_of}
use Rattle.mk_launch.specs.Marks.{marks}
use Rattle.mk_launch.proofs.Finishing.{finish, at_begin}
use Rattle.mk_launch.proofs.Progress.{goes_on, is_shorter}
use Rattle.mk_launch.proofs.template.words.Goals as goal

pub loop-front-init : goal.loop-front-init
loop-front-init c =
    let text = c.as_str-text.result.now in
    let none : length text - length text ≡ 0 = omega arith in
    record {
      text = search rules;
      within = omega arith;
      same = search rules;
      reads = ap (λ i. finish c.in_ok-reader.reader (marks i 0 text)) none ∙ ap (λ s. finish s (marks 0 0 text)) c.in_ok-reader.ensures
          ∙ at_begin (address_at c.args.port) (marks 0 0 text) ∙ ap (λ t. words_of t c.args.port) c.as_str-text.ensures;
    }

pub loop-front-smaller : goal.loop-front-smaller
loop-front-smaller c = is_shorter c.in-Some.front c.loop-front.rest.now c.in-Some.after.now c.in-Some.ensures

pub loop-front-preserved : goal.loop-front-preserved
loop-front-preserved c =
    let less = is_shorter c.in-Some.front c.loop-front.rest.now c.in-Some.after.now c.in-Some.ensures in
    record {
      text = search rules;
      within = omega (arith, less, c.loop-front.invariant.within);
      same = c.loop-front.invariant.same;
      reads = goes_on (length c.as_str-text.result.now) c.in-Some.front c.loop-front.reader c.read.new.self c.loop-front.rest.now c.in-Some.after.now _
          c.loop-front.invariant.within c.in-Some.ensures c.in_ok-read.ensures.ok c.loop-front.invariant.reads;
    }
