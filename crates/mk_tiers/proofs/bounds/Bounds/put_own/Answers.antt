-- Answers to the goals of `bounds::Bounds::put_own` that the prover leaves.
use Rattle.std.proofs.Common.{◌≡◌, ◌<◌, length, map, slice_set, slice_index, sym, subst, ap, ◌∙◌, arith}
use Rattle.std.proofs.lemmas.List.{length-set}
use Rattle.mk_tiers.specs.Seen.{Seen, AreOfPlan, IsEarliestIn}
use Rattle.mk_tiers.specs.Times.{unpacked}
use Rattle.mk_tiers.proofs.Owning.{set_seen, seen_own, same_seen, changed, still_of}
use Rattle.mk_tiers.proofs.Speaking.{seen_count}
use Rattle.mk_tiers.proofs.Noting.{earliest_stays}
use Rattle.mk_tiers.proofs.bounds.Bounds.put_own.Goals as goal

pub returns-clause-changed : goal.returns-clause-changed
returns-clause-changed c =
    let a = c.self.inside in
    let s = c.args.sim.0 in
    let n = c.set_own.new.self in
    let e : map unpacked n.owns.items ≡ slice_set (map unpacked a.state.owns.items) s c.args.own = ap (map unpacked) c.set_own.ensures.owns ∙ set_seen a.state.owns.items s c.own_number-number.result c.args.own (ap unpacked c.own_number-number.ensures ∙ seen_own c.args.own c.requires.own) in
    same_seen a.net.triggers.ins a.net.waits.ins (map unpacked n.owns.items) (slice_set (map unpacked a.state.owns.items) s c.args.own) n.busy.items (slice_set a.state.busy.items s c.args.busy) e c.set_own.ensures.busy
    ∙ ap (changed s c.args.own c.args.busy) c.self.view_is

pub returns-clause-plan : goal.returns-clause-plan
returns-clause-plan c = λ P of. subst (λ (B : Seen). AreOfPlan P B) (sym (returns-clause-changed c)) (still_of P c.args.self.now c.args.sim.0 c.args.own c.args.busy of)

pub returns-clause-kept : goal.returns-clause-kept
returns-clause-kept c = λ P valid of s low out e was.
    let a = c.self.inside in
    let n = c.set_own.new.self in
    let S = c.self.invariant.0 in
    let here : s < length a.state.owns.items = omega (arith, low, ap (λ (B : Seen). length B.owns) c.self.view_is, seen_count a.state.owns.items) in
    let there : s < length n.owns.items = omega (arith, here, ap length c.set_own.ensures.owns, length-set a.state.owns.items c.args.sim.0 c.own_number-number.result) in
    let same : slice_index n.labels.items s ≡ slice_index a.state.labels.items s = c.set_own.ensures.kept s (omega (arith, here, S.labels_count)) out in
    earliest_stays a.net a.state.owns.items a.state.labels.items n.owns.items n.labels.items a.state.busy.items n.busy.items a.state.ready n.ready S c.set_own.ensures.stands P valid
    (subst (AreOfPlan P) (sym c.self.view_is) of) (returns-clause-plan c P of) s here there same e (subst (λ (B : Seen). IsEarliestIn P B s e) (sym c.self.view_is) was)
