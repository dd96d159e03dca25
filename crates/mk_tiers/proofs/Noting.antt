-- Who may step from another time on, as starts change.
use Rattle.std.proofs.Common.{◌≡◌, ℕ, ◌<◌, List, length, slice_index, Bool, Option, Some, None, refl, ap, ◌∙◌, subst, arith}
use Rattle.mk_base.specs.declared.tier.Tier.{Tier}
use Rattle.mk_base.proofs.TierOrder.{up_to_antisym}
use Rattle.mk_plan.specs.declared.Plan.{Plan}
use Rattle.mk_plan.specs.Plans.{IsValidPlan}
use Rattle.mk_tiers.specs.declared.bits.Bits.{Bits}
use Rattle.mk_tiers.specs.declared.net.Net.{Net}
use Rattle.mk_tiers.specs.Seen.{Seen, AreOfPlan, IsEarliestIn}
use Rattle.mk_tiers.specs.Noted.{HasNoted}
use Rattle.mk_tiers.specs.Times.{unpacked}
use Rattle.mk_tiers.specs.inner.Standing.{AreLabelled}
use Rattle.mk_tiers.proofs.Speaking.{earliest_is, seen}

-- there is one least end of walks
pub one_earliest : (P : Plan) (B : Seen) (s : ℕ) (e o : Option Tier) → IsEarliestIn P B s e → IsEarliestIn P B s o → e ≡ o
one_earliest P B s None None h k = refl
one_earliest P B s None (Some o) h k = absurd (h o k.reached)
one_earliest P B s (Some e) None h k = absurd (k e h.reached)
one_earliest P B s (Some e) (Some o) h k = ap Some (up_to_antisym e o (h.least o k.reached) (k.least e h.reached))

-- where the label is as it was, so is the least end of walks
pub earliest_stays : (net : Net) (owns labels owns' labels' : List ℕ) (busy busy' : List Bool) (ready ready' : Bits) → AreLabelled net owns labels busy ready → AreLabelled net owns' labels' busy' ready'
    → (P : Plan) → IsValidPlan P → AreOfPlan P (seen net owns busy) → AreOfPlan P (seen net owns' busy') → (s : ℕ) → s < length owns → s < length owns' → slice_index labels' s ≡ slice_index labels s
    → (e : Option Tier) → IsEarliestIn P (seen net owns busy) s e → IsEarliestIn P (seen net owns' busy') s e
earliest_stays net owns labels owns' labels' busy busy' ready ready' S T P valid of of' s low low' same e was =
    subst (IsEarliestIn P (seen net owns' busy') s) (ap unpacked same ∙ one_earliest P (seen net owns busy) s (unpacked (slice_index labels s)) e (earliest_is net owns labels busy ready S P valid of s low) was)
    (earliest_is net owns' labels' busy' ready' T P valid of' s low')

-- ---- one change after another

-- where nothing changes, nobody is noted
pub noted_none : (A : Seen) (x : Bits) → HasNoted A A x x
noted_none A x = record { plan = λ P of. of; count = refl; grown = λ i h out. out; same = λ P valid of s low h out e was. was }

pub noted_both : (A B C : Seen) (x y z : Bits) → HasNoted A B x y → HasNoted B C y z → HasNoted A C x z
noted_both A B C x y z one two = record {
  plan = λ P of. two.plan P (one.plan P of);
  count = two.count ∙ one.count;
  grown = λ i h out. one.grown i h (two.grown i h out);
  same = λ P valid of s low h out e was. two.same P valid (one.plan P of) s (omega (arith, low, one.count)) h out e (one.same P valid of s low h (two.grown s h out) e was);
}
