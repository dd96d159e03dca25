-- What the bounds' calls say, in the words of the view's half.
use Rattle.std.proofs.Common.{◌≡◌, ℕ, zero, suc, ◌<◌, ℤ, Bool, false, List, [], ◌∷◌, length, slice_get, slice_set, slice_index_or, unwrap_or, Option, Some, None, refl, sym, ap, ◌∙◌, subst, arith}
use Rattle.mk_base.proofs.Lists.{below_get, set_here, set_else}
use Rattle.mk_base.specs.declared.SimNo.{SimNo}
use Rattle.mk_base.specs.declared.tier.Tier.{Tier}
use Rattle.mk_plan.specs.declared.Plan.{Plan}
use Rattle.mk_plan.specs.Journals.{View}
use Rattle.mk_plan.specs.Ready.{start, IsReady}
use Rattle.mk_plan.specs.Advance.{IsAdvance}
use Rattle.mk_plan.specs.Orderly.{IsFirstReady}
use Rattle.mk_tiers.specs.Seen.{Seen, AreOfPlan, start_in, is_busy_in, IsReadyIn, IsFirstReadyIn, IsOuterIn}
use Rattle.mk_order.proofs.Tables.{ready_by, ready_why, nobody_by, same_starts, IsOuterTime}
use Rattle.mk_order.specs.Pending.{StartsOf}

module _ (P : Plan) (V : View) (B : Seen) (of_plan : AreOfPlan P B) (mirror : StartsOf P V (start_in B) (is_busy_in B)) where
  pub ready_is : (s : ℕ) (r : IsReadyIn P B s) → IsReady P V s r.at
  ready_is s r = ready_by P V (start_in B) (is_busy_in B) mirror s r.at r.idle r.start r.clear

  pub is_ready : (s : ℕ) (x : Tier) → IsReady P V s x → IsReadyIn P B s
  is_ready s x r = let t = ready_why P V (start_in B) (is_busy_in B) mirror s x r in record { idle = t.0; at = x; start = t.1; clear = t.2 }

  pub first_is : (s : SimNo) → IsFirstReadyIn P B (Some s) → (x : Tier) × (start_in B s.0 ≡ Some x) × IsFirstReady IsReady IsAdvance P V s.0 x
  first_is s f = (f.1.at, f.1.start, (ready_is s.0 f.1, λ i y low r. f.2 i low (is_ready i y r)))

  pub nobody_is : IsFirstReadyIn P B None → (i : ℕ) (x : Tier) → IsReady P V i x → ⊥
  nobody_is f = nobody_by P V (start_in B) (is_busy_in B) mirror (λ i y low idle at clear. f i (subst (λ (n : ℕ). i < n) (sym of_plan.count) low) (record { idle = idle; at = y; start = at; clear = clear }))

  pub outer_is : (s : ℕ) (o : Option ℤ) → IsOuterIn P B s o → IsOuterTime P (start P V) s o
  outer_is s o h = subst (λ (f : ℕ → Option Tier). IsOuterTime P f s o) (same_starts P V (start_in B) (is_busy_in B) mirror) h

-- ---- after `set_own`

set_start : (xs : List (Option Tier)) (i j : ℕ) (o : Option Tier) → i < length xs → (j ≡ i → unwrap_or (slice_get (slice_set xs i o) j) None ≡ o) × ((j ≡ i → ⊥) → unwrap_or (slice_get (slice_set xs i o) j) None ≡ unwrap_or (slice_get xs j) None)
set_start xs i j o low = (
  (λ e. ap (λ (p : Option (Option Tier)). unwrap_or p None) (ap (slice_get (slice_set xs i o)) e ∙ (let t = below_get xs i low in set_here xs i o t.0 t.1))),
  λ n. ap (λ (p : Option (Option Tier)). unwrap_or p None) (set_else xs i j o n),
)

pub flag_here : (xs : List Bool) (i : ℕ) (b : Bool) → i < length xs → slice_index_or (slice_set xs i b) i false ≡ b
flag_here [] i b low = absurd (omega arith)
flag_here (x ∷ xs) zero b low = refl
flag_here (x ∷ xs) (suc i) b low = flag_here xs i b (omega arith)

pub flag_else : (xs : List Bool) (i j : ℕ) (b : Bool) → (j ≡ i → ⊥) → slice_index_or (slice_set xs i b) j false ≡ slice_index_or xs j false
flag_else [] i j b n = refl
flag_else (x ∷ xs) zero zero b n = absurd (n refl)
flag_else (x ∷ xs) zero (suc j) b n = refl
flag_else (x ∷ xs) (suc i) zero b n = refl
flag_else (x ∷ xs) (suc i) (suc j) b n = flag_else xs i j b (λ e. n (ap suc e))

module _ (old new : Seen) (i : ℕ) (own : Option Tier) (busy : Bool) (is : new ≡ record { triggers = old.triggers; waits = old.waits; owns = slice_set old.owns i own; busy = slice_set old.busy i busy }) where
  pub own_here : i < length old.owns → start_in new i ≡ own
  own_here low = ap (λ (B : Seen). start_in B i) is ∙ (set_start old.owns i i own low).0 refl

  pub own_else : i < length old.owns → (j : ℕ) → (j ≡ i → ⊥) → start_in new j ≡ start_in old j
  own_else low j n = ap (λ (B : Seen). start_in B j) is ∙ (set_start old.owns i j own low).1 n

  pub busy_here : i < length old.busy → is_busy_in new i ≡ busy
  busy_here low = ap (λ (B : Seen). is_busy_in B i) is ∙ flag_here old.busy i busy low

  pub busy_else : (j : ℕ) → (j ≡ i → ⊥) → is_busy_in new j ≡ is_busy_in old j
  busy_else j n = ap (λ (B : Seen). is_busy_in B j) is ∙ flag_else old.busy i j busy n
