-- How many outputs may be held is the same for supplies that are the same where connections take
-- them, and falls as the least mark rises.
use Rattle.std.proofs.Common.{◌≡◌, inl, inr, ℕ, ◌+◌, ◌≤◌, ◌<◌, Bool, true, false, not, ◌&&◌, ◌||◌, if◌then◌else◌, List, [], ◌∷◌, length, filter, Some, unwrap_or, slice_get, ap, refl, sym, subst, ◌∙◌, ◌==◌, arith, true≢false, pos, int_lt}
use Rattle.std.specs.List.{list_any, sum_by}
use Rattle.std.proofs.lemmas.List.Sums.{sum_by-cons}
use Rattle.mk_base.specs.declared.tier.Tier.{Tier}
use Rattle.mk_base.specs.Lists.{IsIn, same_text}
use Rattle.mk_base.specs.Tiers.{IsUpTo, delayed, up_to, moment}
use Rattle.mk_base.proofs.Lists.{all_in, get_is, passes_some, some_passes}
use Rattle.mk_base.proofs.TierOrder.{up_to_trans}
use Rattle.mk_plan.specs.declared.Plan.{Plan}
use Rattle.mk_plan.specs.declared.Conn.{Conn}
use Rattle.mk_plan.specs.Plans.{owner, sim_count}
use Rattle.mk_plan.specs.Asks.{gives_attr}
use Rattle.mk_plan.specs.Deliveries.{Timed, Supply, supply}
use Rattle.mk_plan.specs.Journals.{View}
use Rattle.mk_order.proofs.EntityNames.{owner_is_below}
use Rattle.mk_buffers.specs.declared.buffers.Buffers.{Buffers}
use Rattle.mk_buffers.specs.Bounds.{same_source, sources, comes_late, is_late, late_of, most_kept}
use Rattle.mk_buffers.specs.Marking.{asks_of}
use Rattle.mk_buffers.specs.Standing.{StandFor, least_mark, mark_of}
use Rattle.mk_buffers_log.proofs.Keeping.{implied}
use Rattle.mk_buffers.proofs.Bounding.{sum_le}
use Rattle.mk_sched_supply.specs.declared.stock.Stock.{Stock}
use Rattle.mk_sched_supply.specs.Stock.{IsStockOf}
use Rattle.mk_base.proofs.Bools.{or_second, and_holds, both_hold}
use Rattle.mk_base.proofs.Counts.{equal_same}
use Rattle.mk_order.proofs.Supplies.{given_by}

sum_same : {X : Type 0} (f g : X → ℕ) (xs : List X) → ((x : X) → IsIn x xs → f x ≡ g x) → sum_by f xs ≡ sum_by g xs
sum_same f g [] h = refl
sum_same f g (x ∷ xs) h = omega (arith, sum_by-cons f x xs, sum_by-cons g x xs, h x (inl refl), sum_same f g xs (λ y m. h y (inr m)))

source_was : (cs : List Conn) (c : Conn) → IsIn c (sources cs) → IsIn c cs
source_was [] c m = absurd m
source_was (x ∷ xs) c m = go (λ r. source_was xs c r) (list_any (same_source x) xs) m
  where
    go : (IsIn c (sources xs) → IsIn c xs) → (b : Bool) → IsIn c (if b then sources xs else x ∷ sources xs) → IsIn c (x ∷ xs)
    go more true r = inr (more r)
    go more false (inl q) = inl q
    go more false (inr r) = inr (more r)

-- ---- supplies that are the same

pub most_same : (P : Plan) (S T : Supply) (m : Tier) → ((e : ℕ) (attr : List ℕ) → gives_attr P e attr ≡ true → S.outputs e attr ≡ T.outputs e attr) → most_kept P S m ≡ most_kept P T m
most_same P S T m same = ap (λ (n : ℕ). length P.conns + length (sources P.conns) + n) (sum_same (late_of P S m) (late_of P T m) (sources P.conns)
    (λ c r. ap (λ (l : List Timed). length (filter (λ t. is_late P m c.from c.from_attr t.at) l)) (same c.from c.from_attr (given_by P c (source_was P.conns c r)))))

-- ---- a later least mark

or_each : (a b c d : Bool) → (a ≡ true → c ≡ true) → (b ≡ true → d ≡ true) → a || b ≡ true → c || d ≡ true
or_each true b c d f g h = ap (λ (x : Bool). x || d) (f refl)
or_each false b c d f g h = or_second c d (g h)

-- what isn't up to a time isn't up to an earlier one
still_after : (x low high : Tier) → IsUpTo low high → not (up_to x high) ≡ true → not (up_to x low) ≡ true
still_after x low high less h = go (up_to x low) refl
  where
    go : (b : Bool) → up_to x low ≡ b → not b ≡ true
    go true e = absurd (true≢false (sym h ∙ ap not (up_to_trans x low high e less)))
    go false e = refl

any_still : (f g : Conn → Bool) (cs : List Conn) → ((c : Conn) → f c ≡ true → g c ≡ true) → list_any f cs ≡ true → list_any g cs ≡ true
any_still f g cs h e = let t = some_passes f cs e in passes_some g t.0 cs t.1 (h t.0 t.2)

module _ (P : Plan) (low high : Tier) (less : IsUpTo low high) where
  comes_still : (x : Tier) (c : Conn) → comes_late P high x c ≡ true → comes_late P low x c ≡ true
  comes_still x c h =
      let both = both_hold (not (up_to (delayed x c.via) high)) (int_lt (delayed x c.via).time P.until) h in
      and_holds (not (up_to (delayed x c.via) low)) (int_lt (delayed x c.via).time P.until) (still_after (delayed x c.via) low high less both.0) both.1

  still_late : (e : ℕ) (attr : List ℕ) (x : Tier) → is_late P high e attr x ≡ true → is_late P low e attr x ≡ true
  still_late e attr x = or_each (not (up_to x high)) (list_any (λ c. (c.from == e) && same_text c.from_attr attr && comes_late P high x c) P.conns)
      (not (up_to x low)) (list_any (λ c. (c.from == e) && same_text c.from_attr attr && comes_late P low x c) P.conns)
      (still_after x low high less)
      (any_still (λ c. (c.from == e) && same_text c.from_attr attr && comes_late P high x c) (λ c. (c.from == e) && same_text c.from_attr attr && comes_late P low x c) P.conns
      (λ c h. let both = both_hold ((c.from == e) && same_text c.from_attr attr) (comes_late P high x c) h in
      and_holds ((c.from == e) && same_text c.from_attr attr) (comes_late P low x c) both.0 (comes_still x c both.1)))

  late_falls : (S : Supply) (c : Conn) → late_of P S high c ≤ late_of P S low c
  late_falls S c = implied (λ t. is_late P high c.from c.from_attr t.at) (λ t. is_late P low c.from c.from_attr t.at) (S.outputs c.from c.from_attr) (λ t m h. still_late c.from c.from_attr t.at h)

-- where no connection leads anywhere, nothing is late
pub most_falls : (P : Plan) (S : Supply) (low high : Tier) → ((c : Conn) → IsIn c P.conns → IsUpTo low high) → most_kept P S high ≤ most_kept P S low
most_falls P S low high less =
    let falls = sum_le (late_of P S high) (late_of P S low) (sources P.conns) (λ c m. late_falls P low high (less c (source_was P.conns c m)) S c) in
    omega (arith, falls)

-- ---- the least mark of those that ask

module _ (P : Plan) (b : Buffers) (S : Supply) (st : StandFor P b S) (m : Tier) (after : (s : ℕ) → s < sim_count P → IsUpTo m (mark_of b s)) where
  -- a time that every mark is after or at is up to the least one, where there is a connection,
  -- whose target asks
  pub least_after : (c : Conn) → IsIn c P.conns → IsUpTo m (least_mark b)
  least_after c here =
      let refers = st.of_plan.valid.well_formed.references in
      let asks : asks_of P (owner P c.to) ≡ true = ap (λ (t : Bool). t || list_any (λ p. p.to.0 == owner P c.to) P.asyncs) (passes_some (λ d. owner P d.to == owner P c.to) c P.conns here (equal_same (owner P c.to) (owner P c.to) refl)) in
      let on : slice_get b.marks.asks (owner P c.to) ≡ Some true = st.of_plan.asking.each (owner P c.to) (owner_is_below P refers c.to (all_in (λ (d : Conn). (d.from < length P.entities) × (d.to < length P.entities)) P.conns c refers.conns here).1) ∙ ap Some asks in
      let r = st.of_plan.least.held (owner P c.to) on in
      let there = (get_is b.marks.asks r.0 true r.1).0 in
      subst (IsUpTo m) (ap (λ o. unwrap_or o (moment (pos 0))) r.2) (after r.0 (omega (arith, there, st.of_plan.asking.count)))

-- as many as a stock holds at most by its least mark are few by any time that every mark is after or at
pub most_at : (P : Plan) (V : View) (k : Stock) → IsStockOf P V k → (m : Tier) → ((s : ℕ) → s < sim_count P → IsUpTo m (mark_of k.buffers s)) → (n : ℕ) → n ≤ most_kept P (supply P V.acts) (least_mark k.buffers) → n ≤ most_kept P (supply P V.acts) m
most_at P V k stock m after n few =
    let falls = most_falls P (supply P V.acts) m (least_mark k.buffers) (least_after P k.buffers stock.supplied.0 stock.supplied.1 m after) in
    omega (arith, few, falls)
