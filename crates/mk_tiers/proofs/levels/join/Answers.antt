-- Sets that are joined with the middle one's: each step, and all of them.
use Rattle.std.proofs.Common.{◌≡◌, List, slice_get, Some, true, false, sym, ap, ◌∙◌, subst, arith}
use Rattle.mk_base.proofs.Lists.{get_is, some_same}
use Rattle.mk_tiers.specs.declared.bits.Bits.{Bits}
use Rattle.mk_tiers.specs.Sets.{has, IsBoth}
use Rattle.mk_tiers.specs.inner.Levels.{IsJoined}
use Rattle.mk_tiers.proofs.Joining.{done_kept, done_set, get_there, joined_by, joined_not, rest_set}
use Rattle.mk_tiers.proofs.levels.join.Goals.{then-has, else-has}
use Rattle.mk_tiers.proofs.levels.join.Goals as goal

pub loop-sim-preserved : goal.loop-sim-preserved
loop-sim-preserved c =
    let m = c.args.middle in
    let I = c.loop-sim.invariant in
    let now = c.loop-sim.sets in
    let here = c.index-sets-sim.result in
    let more = c.index-sets-middle.result in
    let at : slice_get now c.loop-sim.sim ≡ Some here = get_there now c.loop-sim.sim here (omega arith) c.index-sets-sim.is in
    elim c.if-has.branch [
      | then-has w ↦
          let one = w.index-sets-sim-then-has.result in
          let same : one ≡ here = some_same (sym (get_there now c.loop-sim.sim one (omega arith) w.index-sets-sim-then-has.is) ∙ at) in
          let had : has here m ≡ true = ap (λ (b : Bits). has b m) c.index-sets-sim.is ∙ sym c.has.ensures ∙ w.if-has.true in
          let joined = joined_by m here more w.or.result had (subst (λ (b : Bits). IsBoth b more w.or.result) same w.or.ensures) in
          record {
            done = done_set m more c.args.sets.now now c.loop-sim.sim here at I.rest I.done c.if-has.sets w.or.result w.sets-is joined;
            rest = rest_set m more c.args.sets.now now c.loop-sim.sim here at I.rest I.done c.if-has.sets w.or.result w.sets-is;
          }
      | else-has w ↦
          let lacked : has here m ≡ false = ap (λ (b : Bits). has b m) c.index-sets-sim.is ∙ sym c.has.ensures ∙ w.if-has.false in
          record {
            done = λ s one n low was is. done_kept m more c.args.sets.now now c.loop-sim.sim here at I.rest I.done (joined_not m here more lacked) s one n low was (ap (λ (l : List Bits). slice_get l s) (sym w.sets-is) ∙ is);
            rest = λ s high. ap (λ (l : List Bits). slice_get l s) w.sets-is ∙ I.rest s (omega arith);
          }
    ]

pub returns : goal.returns
returns c = λ s one other now was middle is.
    let mid = some_same (sym (get_there c.args.sets.now c.args.middle c.index-sets-middle.result c.requires.middle c.index-sets-middle.is) ∙ middle) in
    subst (λ (b : Bits). IsJoined c.args.middle one b now) mid (c.loop-sim.invariant.done s one now (let low = (get_is c.args.sets.now s one was).0 in omega (arith, low, c.loop-sim-test.false)) was is)
