-- The simulator at the place of a link is on it, and one on no link is at no place.
use Rattle.std.proofs.Common.{◌≡◌, arith, refl, subst, sym, slice_get, Some, List}
use Rattle.mk_base.specs.declared.LinkNo.{LinkNo}
use Rattle.mk_run_links.proofs.Linking.{listed_within, no_sim_there, sim_on_link}
use Rattle.mk_run_links.proofs.channels.CrewChannels.sim_on.Goals as goal

pub returns-in_err-k-clause-none : goal.returns-in_err-k-clause-none
returns-in_err-k-clause-none c none = rw (← c.self.view_is) (no_sim_there c.self.inside.channels.items c.self.inside.links.items c.self.inside.sims.items c.args.link c.self.invariant.1 (λ k there. c.in_err-k.ensures.none refl k (subst (λ (xs : List LinkNo). slice_get xs k ≡ Some c.args.link) (sym c.deref.ensures.value) there)))

pub index-requires : goal.index-requires
index-requires c =
    let less = listed_within _ c.self.inside.links.items c.self.inside.sims.items c.in_ok-k.k c.args.link c.self.invariant.1 (subst (λ (xs : List LinkNo). slice_get xs c.in_ok-k.k ≡ Some c.args.link) c.deref.ensures.value c.in_ok-k.ensures.some) in
    omega (arith, less)

pub returns-clause-some : goal.returns-clause-some
returns-clause-some c = rw (← c.self.view_is) (sim_on_link c.self.inside.channels.items c.self.inside.links.items c.self.inside.sims.items c.in_ok-k.k c.index.result.now c.args.link c.self.invariant.1 c.index.ensures (subst (λ (xs : List LinkNo). slice_get xs c.in_ok-k.k ≡ Some c.args.link) c.deref.ensures.value c.in_ok-k.ensures.some))
