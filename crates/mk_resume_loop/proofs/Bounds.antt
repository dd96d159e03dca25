-- While a simulator is sent its items anew, the count of its entries and its ids are small.
use Rattle.std.proofs.Common.{◌≡◌, ℕ, zero, suc, ◌+◌, ◌<◌, ◌≤◌, List, [], ◌∷◌, length, take, slice_get, Some, ap, ◌∙◌, arith, length-append}
use Rattle.mk_base.proofs.Lists.{get_is}
use Rattle.mk_plan.specs.declared.Plan.{Plan}
use Rattle.mk_plan.specs.declared.Entry.{Entry}
use Rattle.mk_plan.specs.Plans.{IsValidPlan, sim_count}
use Rattle.mk_plan.specs.Sequential.{takes_id}
use Rattle.mk_sched.specs.Cores.{CoreState}
use Rattle.mk_run_crew.specs.Seen.{CrewSeen}
use Rattle.mk_run.proofs.SmallIds.{few_passed, few_sent, low_first}
use Rattle.mk_resume_walk.specs.Walks.{IsFirstOwn, is_of}
use Rattle.mk_resume_loop.specs.inner.Turns.{IsDue, Walk}
use Rattle.mk_resume_loop.proofs.Standing.{get_dropped}

-- ---- lists

few_taken : (n : ℕ) (J : List Entry) → length (take n J) ≤ length J
few_taken zero J = omega arith
few_taken (suc n) [] = omega arith
few_taken (suc n) (e ∷ J) = let few = few_taken n J in let more : suc (length (take n J)) ≤ suc (length J) = omega (arith, few) in more

-- ---- a plan

pub few_sims : (P : Plan) → IsValidPlan P → length P.sims ≤ 200
few_sims P valid = valid.well_formed.limits.sims.1

-- ---- the place of a simulator's next entry

pub place_low : (J : List Entry) (i from : ℕ) (p : ℕ) → IsFirstOwn J i from (Some p) → p < length J
place_low J i from p (between, e, later, is, none, own, at) = (get_is J p e (ap (slice_get J) at ∙ get_dropped from J between later e is)).0

module _ (R : Walk) (core : CoreState) (C : CrewSeen) (s gone id : ℕ) (d : IsDue R core C s gone id) where
  few_entries : length core.entries ≤ 20000000
  few_entries = let w = d.resuming.stands.within in let n = d.resuming.stands.valid.well_formed.limits.entries.1 in omega (arith, w, n)

  pub gone_low : gone ≤ 20000000
  gone_low =
      let a = d.counted in
      let b = few_passed (is_of s) (take R.from core.entries) in
      let c = few_taken R.from core.entries in
      let e = few_entries in
      omega (arith, a, b, c, e)

  pub id_low : s < sim_count core.plan → id ≤ 21000000
  id_low low =
      let first = low_first core.plan d.resuming.stands.valid s low in
      let taken = few_passed takes_id (R.course.queued s) in
      let queued = ap length d.passing.was_sent in
      let few = few_sent d.passing.gone.gone s in
      let parts : length core.entries ≡ length d.passing.gone.gone + length d.passing.gone.left = ap length d.passing.gone.parts ∙ length-append d.passing.gone.gone d.passing.gone.left in
      let e = few_entries in
      let n = d.numbered in
      omega (arith, first, taken, queued, few, parts, e, n)
