-- Answers to the goals of `buffers::Buffers::last_for` that the prover leaves.
use Rattle.std.proofs.Common.{◌≡◌, Some, ℤ, arith, sym, ap, ◌∙◌, slice_get}
use Rattle.std.proofs.lemmas.Int.{ints}
use mir.Syntax.{w64}
use mir.Val.{to_z, of_z}
use Rattle.std.specs.Prelude.{option_and_then}
use Rattle.mk_plan.specs.Inputs.{latest}
use Rattle.mk_buffers.specs.declared.outlets.Outlet.{Outlet}
use Rattle.mk_buffers_log.specs.Logs.{arrivals, by}
use Rattle.mk_buffers_log.proofs.Places.{get_some}
use Rattle.mk_buffers.proofs.buffers.Buffers.last_for.Goals as goal

pub returns-in-Some : goal.returns-in-Some
returns-in-Some c =
    let at = ap (λ l. slice_get l c.args.inlet.now.outlet) (sym c.deref.ensures.value) ∙ get_some c.deref.result.now c.args.inlet.now.outlet c.in-Some.outlet.now c.in-Some.ensures.lookup.3.0 c.in-Some.ensures.lookup.1 in
    let end : to_z w64 (of_z w64 c.args.self.now.until) ≡ c.args.self.now.until = omega (arith, ints) in
    c.latest.ensures ∙ ap (λ (u : ℤ). latest (by c.args.at (arrivals c.args.inlet.now.via (Some u) c.in-Some.outlet.now.log))) end ∙ sym (ap (option_and_then (λ (o : Outlet). latest (by c.args.at (arrivals c.args.inlet.now.via (Some c.args.self.now.until) o.log)))) at)
