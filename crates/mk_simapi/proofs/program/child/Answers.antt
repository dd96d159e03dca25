-- Answers to the goals of `program::child` that the prover leaves.
use Rattle.std.proofs.Common.{inr, sym, ap, ◌∙◌, ℕ, List, option_map, map, string_bytes}
use Rattle.mk_local.specs.Registries.{rows_in}
use Rattle.mk_simapi.specs.Children.{asked}
use Rattle.mk_simapi.proofs.Starting.{has_connected, has_served}
use Rattle.mk_simapi.proofs.program.child.Goals as goal
use Rattle.mk_base.proofs.Items.{in_last}

pub serve-end-requires-clause-open : goal.serve-end-requires-clause-open
serve-end-requires-clause-open g c = in_last c.in-Link.link (g.F.Fleet.open_links c.args.fleet.now) _ c.in-Link.ensures.starts.3

pub close-requires : goal.close-requires
close-requires g c = record { «open» = in_last c.in-Link.link (g.F.Fleet.open_links c.args.fleet.now) _ (c.serve-end.ensures.same_links ∙ c.in-Link.ensures.starts.3) }

pub returns-in-Link-clause-ended : goal.returns-in-Link-clause-ended
returns-in-Link-clause-ended g c = λ kind port e. has_served (rows_in c.args.kinds.now) kind c.in-Some.asked.kind.now c.in-Ok.kind port c.in-Some.asked.port (g.F.Fleet.started c.args.fleet.now) _ _ _ c.in-Link.link c.serve-end.result
    (g.F.Fleet.open_links c.args.fleet.now) _ _ _ _ _ _ _ c.status_of.result (asked (rows_in c.args.kinds.now) (map string_bytes c.args.words.now)) (sym c.read_words.ensures ∙ ap (option_map (λ a. let p : List ℕ × ℕ = (a.kind.now, a.port) in p)) c.in-Some.is) e c.in-Ok.ensures c.in-Link.ensures.starts.0 c.in-Link.ensures.starts.2 c.serve-end.ensures.same_count c.close.ensures.same_count c.in-Link.ensures.starts.3 c.serve-end.ensures.same_links c.close.ensures.closed c.in-Link.ensures.logged c.serve-end.ensures.served c.close.ensures.logged c.status_of.ensures

pub returns-in-Link-clause-connects : goal.returns-in-Link-clause-connects
returns-in-Link-clause-connects g c = λ kind port e.
    has_connected kind c.in-Some.asked.kind.now port c.in-Some.asked.port (g.F.Fleet.started c.args.fleet.now) _ _ _ (g.F.Fleet.asked c.args.fleet.now) _ _ _ (asked (rows_in c.args.kinds.now) (map string_bytes c.args.words.now))
    (sym c.read_words.ensures ∙ ap (option_map (λ a. let p : List ℕ × ℕ = (a.kind.now, a.port) in p)) c.in-Some.is) e c.in-Link.ensures.starts.2 c.serve-end.ensures.same_count c.close.ensures.same_count c.in-Link.ensures.asks c.serve-end.ensures.same_asked c.close.ensures.same_asked

pub returns-in-Failed-clause-connects : goal.returns-in-Failed-clause-connects
returns-in-Failed-clause-connects g c = λ kind port e. inr (c.in-Failed.ensures.starts.0, c.in-Failed.ensures.asks)

pub returns-clause-connects : goal.returns-clause-connects
returns-clause-connects g c = λ kind port e. inr (c.in-Mem.ensures.starts.0, c.in-Mem.ensures.asks)
