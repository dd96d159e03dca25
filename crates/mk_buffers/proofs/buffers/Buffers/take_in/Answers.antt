-- Answers to the goals of `buffers::Buffers::take_in` that the prover leaves.
use Rattle.std.proofs.Common.{subst}
use Rattle.mk_base.specs.declared.tier.Tier.{Tier}
use Rattle.mk_buffers.specs.inner.Held.{HasTaken}
use Rattle.mk_buffers_log.specs.Logs.{IsFew}
use Rattle.mk_buffers_log.proofs.Places.{get_some}
use Rattle.mk_base.proofs.Lists.{set_here}
use Rattle.mk_buffers.proofs.buffers.Buffers.take_in.Goals as goal

pub returns-clause-ok : goal.returns-clause-ok
returns-clause-ok c =
    let there = get_some c.args.self.now.outlets.items c.args.outlet c.index_mut.result.now c.requires.there c.index_mut.ensures.value in
    let few = subst (λ (m : Tier). IsFew c.take_in.new.self.vias.items c.args.self.now.until m c.take_in.new.self.log) c.least-mark.ensures c.in_ok-take_in.ensures.few in
    record {
      before = c.index_mut.result.now;
      after = c.take_in.new.self;
      at_place = there;
      outlets = (λ k. (c.note.ensures.same.outlets k).items);
      taken = subst (λ (m : Tier). HasTaken c.args.self.now.until m (record { at = c.args.at; value = c.args.value }) c.index_mut.result.now c.take_in.new.self) c.least-mark.ensures c.in_ok-take_in.ensures.ok;
      few = few;
      count = c.note.ensures.noted.count;
      earlier = c.note.ensures.noted.earlier;
      stays = λ low. c.note.ensures.noted.here c.take_in.new.self (set_here c.args.self.now.outlets.items c.args.outlet c.take_in.new.self c.index_mut.result.now there) low few;
      homes = c.note.ensures.same.homes;
      until = c.note.ensures.same.until;
      marks = c.note.ensures.same.marks;
      inlets = c.note.ensures.same.inlets;
      sets = c.note.ensures.same.sets;
      feeds = c.note.ensures.same.feeds;
    }
