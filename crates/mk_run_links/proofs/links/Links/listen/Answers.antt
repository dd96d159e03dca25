-- Answers to the goals of `links::Links::listen` that the prover leaves.
use Rattle.std.proofs.Common.{subst, sym}
use Rattle.mk_run_links.specs.Places.{AreOpen}
use Rattle.mk_run_links.specs.Seen.{Seen}
use Rattle.mk_run_links.proofs.links.Links.listen.Goals as goal

pub listen-requires-clause-open : goal.listen-requires-clause-open
listen-requires-clause-open g c = subst (λ (s : Seen). AreOpen s.channels (g.F.Fleet.open_links c.args.fleet.now)) (sym c.self.view_is) c.requires
