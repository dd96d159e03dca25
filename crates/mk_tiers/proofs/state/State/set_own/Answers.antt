-- Answers to the goals of `state::State::set_own` that the prover leaves.
use Rattle.std.proofs.Common.{◌≡◌, ℕ, ◌<◌, ◌≤◌, ◌++◌, List, Bool, length, take, drop, slice_set, slice_index, refl, sym, ap, ◌∙◌, subst, arith}
use Rattle.std.proofs.lemmas.List.{length-set}
use Rattle.mk_tiers.specs.inner.Arcs.{AreKept, HasReason, IsLow, IsWithin}
use Rattle.mk_tiers.specs.inner.Clear.{IsMarkedClear}
use Rattle.mk_tiers.specs.inner.Standing.{AreLabelled, AreNets}
use Rattle.mk_tiers.specs.Times.{never}
use Rattle.mk_tiers.proofs.Changing.{low_else, reason_else, still_said, start_set}
use Rattle.mk_tiers.proofs.Owning.{take_front}
use Rattle.mk_tiers.proofs.state.State.set_own.Goals as goal

pub relabel_if-moved-requires-clause-fits : goal.relabel_if-moved-requires-clause-fits
relabel_if-moved-requires-clause-fits c = λ i. subst (λ (ls : List ℕ). slice_index ls i ≤ never) (sym c.deref_mut.ensures.value) (c.requires.stands.fits i)

pub relabel_if-moved-requires-clause-reasons : goal.relabel_if-moved-requires-clause-reasons
relabel_if-moved-requires-clause-reasons c = λ v h k.
    let a = c.args.self.now in
    let ins = c.args.net.now.triggers.ins in
    let low : v < length a.owns.items = omega (arith, h, ap length c.deref_mut.ensures.value, c.requires.stands.labels_count) in
    subst (λ (ys : List ℕ). HasReason ins ys c.deref_mut.result.now v) (sym c.deref.ensures.value)
    (subst (λ (ls : List ℕ). HasReason ins (slice_set a.owns.items c.args.sim c.args.own) ls v) (sym c.deref_mut.ensures.value)
    (reason_else ins a.owns.items a.labels.items c.args.sim c.args.own v k (c.requires.stands.reasons v low)))

pub relabel_if-moved-requires-clause-low : goal.relabel_if-moved-requires-clause-low
relabel_if-moved-requires-clause-low c = λ v h k.
    let a = c.args.self.now in
    let ins = c.args.net.now.triggers.ins in
    let low : v < length a.owns.items = omega (arith, h, ap length c.deref_mut.ensures.value, c.requires.stands.labels_count) in
    subst (λ (ys : List ℕ). IsLow ins ys c.deref_mut.result.now v) (sym c.deref.ensures.value)
    (subst (λ (ls : List ℕ). IsLow ins (slice_set a.owns.items c.args.sim c.args.own) ls v) (sym c.deref_mut.ensures.value)
    (low_else ins a.owns.items a.labels.items c.args.sim c.args.own v k (c.requires.stands.low v low)))

pub unsure-unsure-requires-clause-below : goal.unsure-unsure-requires-clause-below
unsure-unsure-requires-clause-below c = λ v a m. let h = c.requires.stands.nets.waits.outs_below v a m in omega (arith, h, c.requires.stands.nets.waits.outs_count)

pub recheck-requires-clause-below : goal.recheck-requires-clause-below
recheck-requires-clause-below c = λ v a m. let h = c.requires.stands.nets.waits.ins_below v a m in omega (arith, h, length-set c.args.self.now.owns.items c.args.sim c.args.own, ap length c.deref-2.ensures.value)

pub recheck-requires-clause-said : goal.recheck-requires-clause-said
recheck-requires-clause-said c = λ v h out.
    let a = c.args.self.now in
    let S = c.requires.stands in
    let ins = c.args.net.now.waits.ins in
    let n = c.relabel_if-moved.new.labels in
    let xs = slice_set a.owns.items c.args.sim c.args.own in
    let low : v < length a.owns.items = omega (arith, h, ap length c.deref-2.ensures.value, length-set a.owns.items c.args.sim c.args.own) in
    let back : take a.labels.len (n ++ drop (length n) a.labels.items) ≡ n = take_front n (drop (length n) a.labels.items) a.labels.len (c.relabel_if-moved.auto.labels ∙ c.deref_mut.ensures.len) in
    let kept = subst (λ (ls : List ℕ). AreKept ls n c.relabel_if-moved.result) c.deref_mut.ensures.value c.relabel_if-moved.ensures.kept in
    let clear : IsMarkedClear ins xs n (slice_set a.busy.items c.args.sim c.args.is_busy) a.ready v =
    still_said (length a.owns.items) ins c.args.net.now.waits.outs S.nets.waits a.owns.items a.labels.items n a.busy.items a.ready c.relabel_if-moved.result c.unsure-unsure.result c.args.sim c.args.own c.args.is_busy
    refl S.labels_count S.busy_count kept c.unsure-unsure.ensures.sim c.unsure-unsure.ensures.all v low out (S.said v low) in
    subst (λ (ys : List ℕ). IsMarkedClear ins ys c.deref-3.result.now c.deref-4.result.now a.ready v) (sym c.deref-2.ensures.value)
    (subst (λ (ls : List ℕ). IsMarkedClear ins xs ls c.deref-4.result.now a.ready v) (sym (c.deref-3.ensures.value ∙ back))
    (subst (λ (bs : List Bool). IsMarkedClear ins xs n bs a.ready v) (sym c.deref-4.ensures.value) clear))

pub returns-clause-stands : goal.returns-clause-stands
returns-clause-stands c =
    let a = c.args.self.now in
    let S = c.requires.stands in
    let net = c.args.net.now in
    let n = c.relabel_if-moved.new.labels in
    let xs = slice_set a.owns.items c.args.sim c.args.own in
    let bs = slice_set a.busy.items c.args.sim c.args.is_busy in
    let ready = c.recheck.new.ready in
    let w : length xs ≡ length a.owns.items = length-set a.owns.items c.args.sim c.args.own in
    let back : take a.labels.len (n ++ drop (length n) a.labels.items) ≡ n = take_front n (drop (length n) a.labels.items) a.labels.len (c.relabel_if-moved.auto.labels ∙ c.deref_mut.ensures.len) in
    let count : length n ≡ length a.owns.items = c.relabel_if-moved.auto.labels ∙ ap length c.deref_mut.ensures.value ∙ S.labels_count in
    let under : (v : ℕ) → v < length xs → v < length c.deref_mut.result.now = λ v h. omega (arith, h, w, count, c.relabel_if-moved.auto.labels) in
    subst (λ (ls : List ℕ). AreLabelled net xs ls bs ready) (sym back) (record {
      nets = subst (λ (k : ℕ). AreNets k net) (sym w) S.nets;
      labels_count = count ∙ sym w;
      busy_count = length-set a.busy.items c.args.sim c.args.is_busy ∙ S.busy_count ∙ sym w;
      starts = λ v h. start_set a.owns.items c.args.sim c.args.own v c.requires.sim c.requires.own S.starts (omega (arith, h, w));
      reasons = λ v h. subst (λ (ys : List ℕ). HasReason net.triggers.ins ys n v) c.deref.ensures.value (c.relabel_if-moved.ensures.reasons v (under v h));
      low = λ v h. subst (λ (ys : List ℕ). IsLow net.triggers.ins ys n v) c.deref.ensures.value (c.relabel_if-moved.ensures.low v (under v h));
      fits = c.relabel_if-moved.ensures.fits;
      within = subst (λ (ys : List ℕ). IsWithin (length ys) ready) c.deref-2.ensures.value c.recheck.ensures.ready;
      said = λ v h.
          subst (λ (ds : List Bool). IsMarkedClear net.waits.ins xs n ds ready v) c.deref-4.ensures.value
          (subst (λ (ls : List ℕ). IsMarkedClear net.waits.ins xs ls c.deref-4.result.now ready v) (c.deref-3.ensures.value ∙ back)
          (subst (λ (ys : List ℕ). IsMarkedClear net.waits.ins ys c.deref-3.result.now c.deref-4.result.now ready v) c.deref-2.ensures.value
          (c.recheck.ensures.said v (omega (arith, h, ap length c.deref-2.ensures.value)))));
    })

pub returns-clause-kept : goal.returns-clause-kept
returns-clause-kept c = λ v low out.
    let a = c.args.self.now in
    let n = c.relabel_if-moved.new.labels in
    let back : take a.labels.len (n ++ drop (length n) a.labels.items) ≡ n = take_front n (drop (length n) a.labels.items) a.labels.len (c.relabel_if-moved.auto.labels ∙ c.deref_mut.ensures.len) in
    let kept = subst (λ (ls : List ℕ). AreKept ls n c.relabel_if-moved.result) c.deref_mut.ensures.value c.relabel_if-moved.ensures.kept in
    ap (λ (ls : List ℕ). slice_index ls v) back ∙ kept v low out
