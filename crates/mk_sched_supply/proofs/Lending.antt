-- What a request may ask of outputs comes no earlier than the least mark.
use Rattle.std.proofs.Common.{◌≡◌, ℕ, ◌<◌, true, [], ◌∷◌, length, Option, Some, None, option_map, refl, sym, ◌∙◌, subst, true≢false, arith, ◌==◌, ◌&&◌}
use Rattle.std.proofs.lemmas.Bool.{eqb-true}
use Rattle.std.proofs.lemmas.Bool.Decides.{nat_tests}
use Rattle.std.specs.List.{list_any}
use Rattle.mk_base.specs.declared.tier.Tier.{Tier}
use Rattle.mk_base.specs.Lists.{IsIn}
use Rattle.mk_base.specs.Tiers.{IsUpTo}
use Rattle.mk_base.proofs.Lists.{all_in, none_some, passes_some, some_passes, some_same}
use Rattle.mk_base.proofs.TierOrder.{up_to_trans}
use Rattle.mk_plan.specs.declared.AsyncPair.{AsyncPair}
use Rattle.mk_plan.specs.declared.Plan.{Plan}
use Rattle.mk_plan.specs.Plans.{RefersInside, has_pair, owner}
use Rattle.mk_plan.specs.Asks.{Request, permits}
use Rattle.mk_order.proofs.LaterQuestions.{turn_after}
use Rattle.mk_async.specs.Asked.{asked_in}
use Rattle.mk_async.specs.inner.Known.{Members, lends, lends_each, permits_asked}
use Rattle.mk_async.specs.declared.request.Asked.{Asked}
use Rattle.mk_async.specs.declared.request.Asked.TheVariants as as_asked
use Rattle.mk_async.proofs.Entities.{entity_named}
use Rattle.mk_async.proofs.Testing.{both}
use Rattle.mk_buffers.specs.Marking.{asks_of}
use Rattle.mk_buffers.specs.Standing.{least_mark, mark_of}
use Rattle.mk_buffers.proofs.Standing.{least_low}
use Rattle.mk_sched_supply.specs.Asking.{IsStepOpen}
use Rattle.mk_sched_supply.specs.inner.Gifts.{wants_data}
use Rattle.mk_sched_supply.specs.declared.stock.Stock.{Stock}
use Rattle.mk_base.proofs.Bools.{or_second, first_holds, second_holds}

module _ (P : Plan) (s : ℕ) where
  permitted_asked : (asked : Asked) → option_map (permits P s) (asked_in asked) ≡ Some true → permits_asked P s asked ≡ true
  permitted_asked asked h = by (asked_in asked) refl h
    where
      by : (o : Option Request) → asked_in asked ≡ o → option_map (permits P s) o ≡ Some true → permits_asked P s asked ≡ true
      by None is h = absurd (none_some h)
      by (Some r) is h = (both P s asked r is).1 ∙ some_same h

  -- the second of a pair
  paired : (from : ℕ) → has_pair P from s ≡ true → (p : AsyncPair) × IsIn p P.asyncs × (p.to.0 ≡ s)
  paired from h = let t = some_passes (λ (p : AsyncPair). (p.from.0 == from) && (p.to.0 == s)) P.asyncs h in (t.0, t.1, eqb-true t.0.to.0 s (second_holds (t.0.from.0 == from) (t.0.to.0 == s) t.2))

  paired_asks : (from : ℕ) → has_pair P from s ≡ true → asks_of P s ≡ true
  paired_asks from h = let t = some_passes (λ (p : AsyncPair). (p.from.0 == from) && (p.to.0 == s)) P.asyncs h in
      or_second (list_any (λ c. owner P c.to == s) P.conns) (list_any (λ p. p.to.0 == s) P.asyncs) (passes_some (λ (p : AsyncPair). p.to.0 == s) t.0 P.asyncs t.1 (second_holds (t.0.from.0 == from) (t.0.to.0 == s) t.2))

  paired_below : RefersInside P → (from : ℕ) → has_pair P from s ≡ true → s < length P.sims
  paired_below refers from h = let t = paired from h in subst (λ (n : ℕ). n < length P.sims) t.2 (all_in (λ (p : AsyncPair). (p.from.0 < length P.sims) × (p.to.0 < length P.sims)) P.asyncs t.0 refers.asyncs t.1).1

  -- some simulator lends to s
  lent : (ms : Members) → 0 < length ms → lends_each P s ms ≡ true → (from : ℕ) × (has_pair P from s ≡ true)
  lent [] few h = absurd (omega arith)
  lent (m ∷ ms) few h = let e = entity_named P m.0 (λ e. has_pair P (owner P e) s) (first_holds (lends P s m.0) (lends_each P s ms) h) in (owner P e.0, e.2)

  pub reached : RefersInside P → (x : Tier) (k : Stock) (asked : Asked) → IsStepOpen P s x k → option_map (permits P s) (asked_in asked) ≡ Some true → wants_data asked ≡ true → IsUpTo (least_mark k.buffers) x
  reached refers x k (as_asked.Get ms) open_ permitted wants =
      let l = lent ms.now (above wants) (permitted_asked (as_asked.Get ms) permitted) in
      let low = paired_below refers l.0 l.1 in
      let b = open_.stock.supplied in
      up_to_trans (least_mark k.buffers) (mark_of k.buffers s) x (least_low P k.buffers b.0 s b.1 low (paired_asks l.0 l.1))
      (subst (IsUpTo (mark_of k.buffers s)) open_.at (turn_after P open_.view s (mark_of k.buffers s) (open_.stock.marks s low) open_.turn open_.opened))
    where
      above : wants_data (as_asked.Get ms) ≡ true → 0 < length ms.now
      above h = grind (arith, nat_tests)
  reached refers x k (as_asked.Set ms) open_ permitted wants = absurd (true≢false (sym wants))
  reached refers x k (as_asked.Related text) open_ permitted wants = absurd (true≢false (sym wants))
  reached refers x k (as_asked.RelatedOfEach trees) open_ permitted wants = absurd (true≢false (sym wants))
