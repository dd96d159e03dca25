-- The links of a rest, and the channels that it wakes.
use Rattle.std.proofs.Common.{sym, subst, ℕ}
use Rattle.mk_run_links.specs.Places.{AreOpen, IsLinked}
use Rattle.mk_run_links.specs.Seen.{Seen}
use Rattle.mk_run_links.proofs.Linking.{links_open, some_link}
use Rattle.mk_run_links.proofs.links.Links.rest.Goals as goal

pub wait-requires-clause-open : goal.wait-requires-clause-open
wait-requires-clause-open g c = links_open c.self.inside.channels _ _ (subst (λ (s : Seen). AreOpen s.channels (g.F.Fleet.open_links c.args.fleet.now)) (sym c.self.view_is) c.requires.open) c.links-links.ensures

pub wait-requires-clause-some : goal.wait-requires-clause-some
wait-requires-clause-some g c = some_link c.self.inside.channels _ (subst (λ (s : Seen). (i : ℕ) × IsLinked i s.channels) (sym c.self.view_is) c.requires.some) c.links-links.ensures
