-- Answers to the goals of `stock::Stock::take_output` that the prover leaves.
use Rattle.std.proofs.Common.{◌≡◌, true, Option, option_map, sym, subst, Bor}
use Rattle.std.specs.Prelude.{IfSome}
use Rattle.mk_base.specs.Trees.{is_datum, is_in_range}
use Rattle.mk_base.specs.declared.json.Json.{Json}
use Rattle.mk_sched_supply.specs.inner.Making.{HasGiven}
use Rattle.mk_sched_supply.proofs.Taking.{taken_some}
use Rattle.mk_sched_supply.proofs.stock.Stock.take_output.Goals as goal

pub returns-in_ok-deliver_to-clause-given : goal.returns-in_ok-deliver_to-clause-given
returns-in_ok-deliver_to-clause-given c = λ P S w st low at.
    let b = c.args.self.now.buffers in
    subst (λ (o : Option (Bor Json)). HasGiven P c.args.sim.0 c.args.made w (option_map {T = Bor Json} {U = Json} (λ v. v.now) o) S c.deliver_to.new.self) (sym c.in-Some.is)
    (taken_some P b c.deliver_to.new.self S c.args.sim.0 c.args.made w c.first_outlet.result c.args.place c.saturating_add-outlet.result c.in-Some.value.now c.in_ok-datum_of.field-0 (c.first_outlet.ensures P S st low c.args.place w at)
    c.saturating_add-outlet.ensures c.in_ok-datum_of.ensures (subst (λ (o : Option (Bor Json)). IfSome o (λ v. (is_datum v.now ≡ true) × (is_in_range v.now ≡ true))) c.in-Some.is c.requires.data) (λ place. c.buffers_stand.ensures.outlets P b c.args.sim.0 w place) (λ e attr key text. c.in_ok-deliver_to.ensures.ok P S e attr st key text))
