-- For proofs alone. The numbers of each Step of an orderly journal are within the limits of a record.
use Rattle.std.proofs.Common.{◌≡◌, ℕ, ◌<◌, ◌≤◌, ℤ, pos, ◌≤ℤ◌, ◌<ℤ◌, false, List, [], ◌∷◌, ◌++◌, Option, Some, None, refl, sym, subst, arith, int_lt, nat_le, true≢false}
use Rattle.std.specs.Prelude.{⊤}
use Rattle.std.proofs.lemmas.Bool.{and_parts, leb-true}
use Rattle.std.proofs.lemmas.Int.{ints}
use Rattle.mk_base.specs.declared.tier.Tier.{Tier}
use Rattle.mk_base.specs.Lists.{Each}
use Rattle.mk_plan.specs.declared.Plan.{Plan}
use Rattle.mk_plan.specs.declared.Item.{Item}
use Rattle.mk_plan.specs.declared.Item.TheVariants.{Step, GetData, Answer, Refuse}
use Rattle.mk_plan.specs.declared.Entry.{Entry}
use Rattle.mk_plan.specs.declared.Entry.TheVariants.{Sent, Got}
use Rattle.mk_plan.specs.Plans.{IsValidPlan, sim_count}
use Rattle.mk_plan.specs.Report.{is_step}
use Rattle.mk_plan.specs.Journals.{View, Owed, view}
use Rattle.mk_plan.specs.Ready.{IsReady}
use Rattle.mk_plan.specs.Advance.{IsAdvance}
use Rattle.mk_plan.specs.Orderly.{IsNext, IsAllowed, IsOrderlyFrom, IsOrderlySoFar}
use Rattle.mk_order.proofs.Going.{advance_between}
use Rattle.mk_order.proofs.Past.{pending_within}
use Rattle.mk_order.proofs.Pushing.{view_push, orderly_push}
use Rattle.mk_order.proofs.Seen.{reached_sound}
use Rattle.mk_base.specs.Limits.{latest_end}

-- the numbers of a Step are within the limits of a record
pub record StepFits (P : Plan) (s : ℕ) (x : Tier) (advance : ℤ) : Type 0 where
  pub sim : s < sim_count P
  pub time : (pos 0 ≤ℤ x.time) × (x.time ≤ℤ latest_end)
  pub tier : x.tier ≤ 1000
  pub ahead : (pos 0 ≤ℤ advance) × (advance ≤ℤ latest_end)

-- the entry is of a simulator of the plan, and a Step fits
abbrev pub EntryFits : Plan → Entry → Type 0
EntryFits P (Sent s (Step x ins advance)) = StepFits P s.0 x advance
EntryFits P (Sent s (GetData wants)) = ⊤
EntryFits P (Sent s (Answer id content)) = ⊤
EntryFits P (Sent s (Refuse id reason)) = ⊤
EntryFits P (Got s m) = s.0 < sim_count P

module _ (P : Plan) (valid : IsValidPlan P) where
  truly : (V : View) (s : ℕ) (x : Tier) → IsReady P V s x → IsReady P V s x
  truly V s x r = r

  step_fits : (H : List Entry) → IsOrderlySoFar IsReady IsAdvance P H → (s : ℕ) (x : Tier) (advance : ℤ) → IsReady P (view P H) s x → IsAdvance P (view P H) s x advance → StepFits P s x advance
  step_fits H orderly s x advance ready ahead =
      let p = pending_within IsReady IsAdvance P truly valid H orderly s x ready.at_pending in
      let w = and_parts (int_lt x.time P.until) (nat_le x.tier P.loops) p.1 in
      let early : x.time <ℤ P.until = grind (arith, ints, w.0) in
      let low : x.time ≤ℤ P.until = grind (arith, ints, early) in
      let end = valid.well_formed.limits.until.1 in
      let loops = valid.well_formed.limits.loops.1 in
      let tier = leb-true x.tier P.loops w.1 in
      let between = advance_between P valid (view P H) s x advance low ahead in
      record {
        sim = p.2;
        time = (p.0, (let a = low in let b = end in grind (arith, ints, a, b)));
        tier = omega (arith, tier, loops);
        ahead = ((let a = p.0 in let b = between.0 in grind (arith, ints, a, b)), (let a = between.1 in let b = end in grind (arith, ints, a, b)));
      }

  entry_fits : (H : List Entry) (e : Entry) → IsOrderlySoFar IsReady IsAdvance P H → IsAllowed IsReady IsAdvance P (view P H) e → EntryFits P e
  entry_fits H e orderly allowed = by_owed (view P H).owed refl allowed.1
    where
      late : (s : _) (item : Item) → is_step item ≡ false → EntryFits P (Sent s item)
      late s (Step x ins advance) h = absurd (true≢false h)
      late s (GetData wants) h = tt
      late s (Answer id content) h = tt
      late s (Refuse id reason) h = tt

      alone : (e : Entry) → IsNext IsReady IsAdvance P (view P H) None e → EntryFits P e
      alone (Got s m) next = next
      alone (Sent s (Step x ins advance)) next = step_fits H orderly s.0 x advance next.0.0 next.2
      alone (Sent s (GetData wants)) next = tt
      alone (Sent s (Answer id content)) next = tt
      alone (Sent s (Refuse id reason)) next = tt

      by_owed : (o : Option Owed) → (view P H).owed ≡ o → IsNext IsReady IsAdvance P (view P H) o e → EntryFits P e
      by_owed None owes next = alone e next
      by_owed (Some o) owes next = subst (EntryFits P) (sym next) (late (record { 0 = o.sim }) o.item ((reached_sound IsReady IsAdvance P truly H orderly).later o owes))

  from_fit : (H K : List Entry) → IsOrderlySoFar IsReady IsAdvance P H → IsOrderlyFrom IsReady IsAdvance P (view P H) K → Each (EntryFits P) K
  from_fit H [] orderly rest = tt
  from_fit H (e ∷ K) orderly rest = (
    entry_fits H e orderly rest.0,
    from_fit (H ++ e ∷ []) K (orderly_push IsReady IsAdvance P H e orderly rest.0) (subst (λ (V : View). IsOrderlyFrom IsReady IsAdvance P V K) (sym (view_push P H e)) rest.1),
  )

  -- each entry of an orderly journal fits
  pub steps_fit : (J : List Entry) → IsOrderlySoFar IsReady IsAdvance P J → Each (EntryFits P) J
  steps_fit J orderly = from_fit [] J tt orderly
