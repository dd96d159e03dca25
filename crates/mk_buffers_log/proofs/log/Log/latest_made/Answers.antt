-- Answers to the goals of `log::Log::latest_made` that the prover leaves.
use Rattle.std.proofs.Common.{◌≡◌, ◌∙◌, ap, subst, List, None, option_map}
use Rattle.mk_base.specs.declared.tier.Via.{Via}
use Rattle.mk_plan.specs.Deliveries.{Timed}
use Rattle.mk_plan.specs.Inputs.{latest}
use Rattle.mk_buffers_log.specs.Logs.{by, arrival, arrivals}
use Rattle.mk_buffers_log.proofs.Ascending.{as_made}
use Rattle.mk_buffers_log.proofs.log.Log.latest_made.Goals as goal

pub returns : goal.returns
returns c = subst (λ (v : Via). option_map (λ m. arrival v m.now) c.latest.result ≡ latest (by c.args.at (arrivals v None c.args.self.now))) c.of.ensures c.latest.ensures ∙ ap (λ (l : List Timed). latest (by c.args.at l)) (as_made c.args.self.now)
