-- When an outlet has to be looked at again, once it is noted.
use Rattle.std.proofs.Common.{sym, ap, subst, ◌∙◌, refl, Option}
use Rattle.std.proofs.lemmas.Bool.{or_parts}
use Rattle.mk_base.specs.declared.tier.Tier.{Tier}
use Rattle.mk_buffers_log.specs.Logs.{IsFew, StaysFew, is_due}
use Rattle.mk_buffers_log.proofs.Places.{get_some}
use Rattle.mk_buffers.proofs.Sweeping.{noted_here}
use Rattle.mk_buffers.proofs.buffers.Buffers.note.Goals as goal

pub returns-clause-noted : goal.returns-clause-noted
returns-clause-noted c =
    noted_here c.args.self.now c.look_again.new.self c.args.outlet c.index-found.result.now.sim c.index-found.result.now c.next_mark-next.result c.least_of-least.result c.look_again.ensures.next
    (get_some c.args.self.now.outlets.items c.args.outlet c.index-found.result.now c.requires c.index-found.ensures) refl
    (λ m due. ap (λ (t : Option Tier). is_due t m) (sym c.next_of.ensures) ∙ (or_parts _ _ (sym (c.least_of-least.ensures m) ∙ due)).0) (λ m due. (or_parts _ _ (sym (c.least_of-least.ensures m) ∙ due)).1)
    (subst (λ (m : Tier). IsFew c.index-found.result.now.vias.items c.args.self.now.until m c.index-found.result.now.log → StaysFew c.index-found.result.now.vias.items c.args.self.now.until m c.next_mark-next.result c.index-found.result.now.log) c.least.ensures c.next_mark-next.ensures)
