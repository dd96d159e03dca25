-- Answers to the goals of `serving::serve` that the prover leaves.
use Rattle.std.proofs.Common.{None, Some, refl, sym, ap, subst, ◌∙◌, arith}
use Rattle.mk_base.specs.declared.LinkNo.{LinkNo}
use Rattle.mk_base.specs.Lists.{IsIn}
use Rattle.mk_local.specs.declared.turn.Turn.{Turn}
use Rattle.mk_local.specs.Registries.{rows_in}
use Rattle.mk_simapi.specs.declared.serving.Service.{Service}
use Rattle.mk_simapi.proofs.Steps.{serving_begun, serving_ended, serving_on, unbegun}
use Rattle.mk_simapi.proofs.serving.serve.Goals as goal

pub returns-in_default-clause-served : goal.returns-in_default-clause-served
returns-in_default-clause-served g c = unbegun (rows_in c.args.kinds.now) c.args.kind.now c.args.link (g.F.Fleet.log c.args.fleet.now)

pub loop-init : goal.loop-init
loop-init g c = record {
  counted = omega arith;
  same_count = refl;
  same_asked = refl;
  same_links = refl;
  linked = ap (λ (s : Service). s.session.link) c.in-Ok.ensures.new;
  there = c.in-Ok.ensures.there;
  serving = serving_begun (rows_in c.args.kinds.now) c.args.kind.now c.args.link (g.F.Fleet.log c.args.fleet.now) c.in-Ok.service.servant c.in-Ok.service.session c.in-Ok.ensures.named (ap (λ (s : Service). s.servant) c.in-Ok.ensures.new) (ap (λ (s : Service). s.session) c.in-Ok.ensures.new);
}

pub step-requires-clause-there : goal.step-requires-clause-there
step-requires-clause-there g c = c.loop.invariant.there

pub step-requires-clause-open : goal.step-requires-clause-open
step-requires-clause-open g c = subst (λ (l : LinkNo). IsIn l (g.F.Fleet.open_links c.loop.fleet)) (sym c.loop.invariant.linked) (subst (IsIn c.args.link) (sym c.loop.invariant.same_links) c.requires.open)

pub loop-preserved : goal.loop-preserved
loop-preserved g c =
    let so_far = c.loop.invariant in
    let went = c.in-Again.ensures.went in
    record {
      counted = omega (arith, so_far.counted, c.in-Again.ensures.count);
      same_count = c.in-Again.ensures.same_count ∙ so_far.same_count;
      same_asked = c.in-Again.ensures.same_asked ∙ so_far.same_asked;
      same_links = c.in-Again.ensures.same_links ∙ so_far.same_links;
      linked = c.in-Again.ensures.link ∙ so_far.linked;
      there = subst (λ (T : Turn). IsIn T (rows_in c.args.kinds.now)) (sym c.in-Again.ensures.kind) so_far.there;
      serving = serving_on (rows_in c.args.kinds.now) c.args.kind.now c.args.link _ _ _ c.loop.service.servant c.step.new.self.servant c.loop.service.session c.step.new.self.session went.0 so_far.serving went.1 None went.2 refl;
    }

pub returns-in-Ended-clause-served : goal.returns-in-Ended-clause-served
returns-in-Ended-clause-served g c =
    let went = c.in-Ended.ensures.went in
    serving_ended (rows_in c.args.kinds.now) c.args.kind.now c.args.link _ _ _ c.loop.service.servant c.step.new.self.servant c.loop.service.session c.step.new.self.session went.0 c.loop.invariant.serving went.1 (Some c.in-Ended.end) went.2 c.in-Ended.end refl
