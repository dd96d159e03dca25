-- The ids of a run are small: those of each simulator begin low, and no journal is long.
use Rattle.std.proofs.Common.{◌≡◌, ℕ, suc, ◌+◌, ◌<◌, ◌≤◌, ◌^◌, ◌==◌, Bool, true, false, List, [], ◌∷◌, ◌++◌, length, filter, slice_get, Option, Some, None, option_map, unwrap_or, if◌then◌else◌, refl, ap, arith, length-append}
use Rattle.std.specs.List.{cons_option}
use Rattle.mk_base.proofs.Lists.{get_is}
use Rattle.mk_plan.specs.declared.Plan.{Plan}
use Rattle.mk_plan.specs.declared.PlanSim.{PlanSim}
use Rattle.mk_plan.specs.declared.Entry.{Entry}
use Rattle.mk_plan.specs.declared.Entry.TheVariants.{Sent, Got}
use Rattle.mk_plan.specs.declared.Item.{Item}
use Rattle.mk_plan.specs.Plans.{IsValidPlan, first_id, sim_count}
use Rattle.mk_plan.specs.Journals.{sent}
use Rattle.mk_plan.specs.Sequential.{id_after, takes_id}
use Rattle.mk_sched.specs.Cores.{Stands}
use Rattle.mk_run_laws.specs.Handshake.{setup_count}
use Rattle.mk_run.specs.inner.Underway.{Setting, Suits}

-- ---- lists

pub few_passed : {X : Type 0} (p : X → Bool) (xs : List X) → length (filter p xs) ≤ length xs
few_passed p [] = omega arith
few_passed p (x ∷ xs) = go (p x) (few_passed p xs)
  where
    go : (b : Bool) → length (filter p xs) ≤ length xs → length (if b then x ∷ filter p xs else filter p xs) ≤ suc (length xs)
    go true few = omega (arith, few)
    go false few = omega (arith, few)

pub few_sent : (J : List Entry) (i : ℕ) → length (sent J i) ≤ length J
few_sent [] i = omega arith
few_sent (Got s m ∷ J) i = let few = few_sent J i in let more : length (sent J i) ≤ suc (length J) = omega (arith, few) in more
few_sent (Sent s item ∷ J) i = go (s.0 == i) (few_sent J i)
  where
    go : (b : Bool) → length (sent J i) ≤ length J → length (cons_option (if b then Some item else None) (sent J i)) ≤ suc (length J)
    go true few = omega (arith, few)
    go false few = omega (arith, few)

pub few_more : {n k : ℕ} → n ≤ k → n ≤ k + 1
few_more few = omega (arith, few)

-- of a journal with one entry more
pub few_behind : (J : List Entry) (e : Entry) (i : ℕ) → length (sent (J ++ e ∷ []) i) ≤ length J + 1
few_behind J e i = let few = few_sent (J ++ e ∷ []) i in let long = length-append J (e ∷ []) in omega (arith, few, long)

-- ---- a plan

pub low_first : (P : Plan) → IsValidPlan P → (i : ℕ) → i < sim_count P → first_id P i ≤ 1000000
low_first P valid i low = go (slice_get P.sims i) refl
  where
    go : (o : Option PlanSim) → slice_get P.sims i ≡ o → unwrap_or (option_map (λ (s : PlanSim). s.first_id) o) 0 ≤ 1000000
    go None none = omega arith
    go (Some s) is = let t = get_is P.sims i s is in let few = valid.well_formed.limits.first_ids i s t.0 in let same = ap (λ (x : PlanSim). x.first_id) t.1 in omega (arith, few, same)

-- ---- a run

-- the next id behind items of a simulator, which are hardly more than the journal has entries
pub small_next : (T : Setting) (P : Plan) (J : List Entry) → Suits T P → Stands P J → (i : ℕ) → i < sim_count P → (items : List Item) → length items ≤ length J + 1 → (next : ℕ) → next ≡ id_after (setup_count T.scenario i) items → next < 2 ^ 32
small_next T P J suits stands i low items few next is =
    let first = suits.first i low in
    let small = low_first P stands.valid i low in
    let taken = few_passed takes_id items in
    let within = stands.within in
    let entries = stands.valid.well_formed.limits.entries.1 in
    omega (arith, first, small, taken, few, within, entries, is)
