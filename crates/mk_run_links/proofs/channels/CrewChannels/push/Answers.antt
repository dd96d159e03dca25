-- One more simulator is listed, if it has a channel.
use Rattle.std.proofs.Common.{◌+◌, ◌<◌, ◌^◌, ◌∙◌, ap, arith, length, subst, sym, ◌++◌, ◌∷◌, [], List}
use Rattle.mk_base.specs.declared.LinkNo.{LinkNo}
use Rattle.mk_base.specs.declared.SimNo.{SimNo}
use Rattle.mk_run_links.specs.Places.{Channels}
use Rattle.mk_run_links.proofs.Linking.{pushed_with, pushed_without}
use Rattle.mk_run_links.proofs.channels.CrewChannels.push.Goals as goal

pub invariant_of-self-in-Some : goal.invariant_of-self-in-Some
invariant_of-self-in-Some c = pushed_with c.self.inside.channels.items c.push.new.self.items c.self.inside.links.items c.push_reserved.new.self.items c.self.inside.sims.items c.push_reserved-in-Some.new.self.items c.args.channel c.in-Some.link c.len.result (omega (arith, c.len.ensures)) c.in-Some.ensures c.in_ok-push.ensures.items
    (c.push_reserved.ensures.items ∙ ap (λ (xs : List LinkNo). xs ++ c.in-Some.link ∷ []) c.reserve.ensures.items)
    (c.push_reserved-in-Some.ensures.items ∙ ap (λ (xs : List SimNo). xs ++ record { 0 = c.len.result } ∷ []) c.reserve-2.ensures.items)
    (subst (λ (L : Channels). length L + 1 < 2 ^ 32) (sym c.self.view_is) c.requires) c.self.invariant.1

pub invariant_of-self-in_default : goal.invariant_of-self-in_default
invariant_of-self-in_default c = pushed_without c.self.inside.channels.items c.push.new.self.items c.self.inside.links.items c.reserve.new.self.items c.self.inside.sims.items c.reserve-2.new.self.items c.args.channel c.in_default.ensures c.in_ok-push.ensures.items c.reserve.ensures.items c.reserve-2.ensures.items
    (subst (λ (L : Channels). length L + 1 < 2 ^ 32) (sym c.self.view_is) c.requires) c.self.invariant.1
