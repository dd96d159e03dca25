-- Answers to the goals of `links::listen` that the prover leaves.
use Rattle.std.proofs.Common.{refl, ◌∙◌, arith, subst, sym, List}
use Rattle.mk_base.specs.declared.LinkNo.{LinkNo}
use Rattle.mk_outside.proofs.OnLogs.{adds_none}
use Rattle.mk_run_links.specs.declared.answers.Listened.{Listened}
use Rattle.mk_run_links.specs.inner.Looks.{ListensAs}
use Rattle.mk_run_links.specs.Places.{AreOpen}
use Rattle.mk_run_links.proofs.Hearing.{hush_begins, hush_goes_on, hush_heard, hush_lasts, open_parked}
use Rattle.mk_run_links.proofs.links.listen.Goals as goal

pub looking-init : goal.looking-init
looking-init g c = record {
  counted = omega arith;
  same_count = refl;
  same_links = refl;
  stands = c.requires.stands;
  are_open = c.requires.open;
  hush = hush_begins c.args.channels.now _ (adds_none _);
}

pub looking-preserved : goal.looking-preserved
looking-preserved g c =
    let so_far = c.looking.invariant in
    let looked = c.in-Parked.ensures.looked in
    record {
      counted = omega (arith, so_far.counted, c.in-Parked.ensures.count);
      same_count = c.in-Parked.ensures.same_count ∙ so_far.same_count;
      same_links = c.in-Parked.ensures.same_links ∙ so_far.same_links;
      stands = c.in-Parked.ensures.stands;
      are_open = subst (λ (ls : List LinkNo). AreOpen c.look.new.channels ls) (sym c.in-Parked.ensures.same_links) (open_parked looked.0 c.looking.channels c.look.new.channels _ looked.2 so_far.are_open);
      hush = hush_goes_on c.args.channels.now c.looking.channels c.look.new.channels _ _ _ looked.0 so_far.hush looked.1 looked.2;
    }

pub returns-in-Heard-clause-listened : goal.returns-in-Heard-clause-listened
returns-in-Heard-clause-listened g c =
    let looked = c.in-Heard.ensures.looked in
    let all = hush_heard c.args.channels.now c.looking.channels c.look.new.channels _ _ _ looked.0 c.looking.invariant.hush looked.1 c.in-Heard.sim c.in-Heard.heard looked.2 in
    (all.0, all.1, subst (λ (r : Listened). ListensAs r all.0 c.args.channels.now c.look.new.channels) (sym c.listened_of.ensures) all.2)

pub returns-in-Quiet-clause-listened : goal.returns-in-Quiet-clause-listened
returns-in-Quiet-clause-listened g c =
    let looked = c.in-Quiet.ensures.looked in
    hush_lasts c.args.channels.now c.looking.channels c.look.new.channels _ _ _ looked.0 c.looking.invariant.hush looked.1 looked.2
