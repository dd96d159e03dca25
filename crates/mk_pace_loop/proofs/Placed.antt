-- Where an item stands in a journal.
use Rattle.std.proofs.Common.{◌≡◌, ℕ, zero, suc, ◌<◌, ℤ, pos, ◌≤ℤ◌, ◌==◌, Bool, true, false, List, [], ◌∷◌, ◌++◌, Option, Some, None, slice_get, if◌then◌else◌, refl, ap, ◌∙◌, subst, arith, true≢false}
use Rattle.std.specs.List.{cons_option}
use Rattle.std.proofs.lemmas.Bool.{eqb-true}
use Rattle.mk_base.specs.declared.SimNo.{SimNo}
use Rattle.mk_base.specs.declared.tier.Tier.{Tier}
use Rattle.mk_base.proofs.Lists.{none_some, some_same}
use Rattle.mk_plan.specs.declared.Entry.{Entry}
use Rattle.mk_plan.specs.declared.Entry.TheVariants.{Sent, Got}
use Rattle.mk_plan.specs.declared.Input.{Input}
use Rattle.mk_plan.specs.declared.Item.{Item}
use Rattle.mk_plan.specs.declared.Item.TheVariants.{Step}
use Rattle.mk_plan.specs.declared.Plan.{Plan}
use Rattle.mk_plan.specs.Advance.{IsAdvance}
use Rattle.mk_plan.specs.Journals.{Owed, sent, view}
use Rattle.mk_plan.specs.Orderly.{IsAllowed, IsNext, IsOrderlySoFar}
use Rattle.mk_plan.specs.Plans.{sim_count}
use Rattle.mk_plan.specs.Ready.{IsReady}
use Rattle.mk_plan.specs.Report.{is_step}
use Rattle.mk_order.proofs.Pushing.{orderly_front}
use Rattle.mk_order.proofs.Seen.{reached_sound}
use Rattle.mk_sched.specs.Cores.{Stands}
use Rattle.mk_run.proofs.Times.{ready_time}
use Rattle.mk_base.specs.Limits.{latest_end}

-- ---- places in a list

-- an entry at a place, and what is before and behind it
pub split_at : {X : Type 0} (J : List X) (i : ℕ) (e : X) → slice_get J i ≡ Some e → (before : List X) × (later : List X) × (J ≡ before ++ e ∷ later)
split_at [] i e there = absurd (none_some there)
split_at (x ∷ J) zero e there = ([], J, ap (λ (y : _). y ∷ J) (some_same there))
split_at (x ∷ J) (suc i) e there = let t = split_at J i e there in (x ∷ t.0, t.1, ap (λ (l : List _). x ∷ l) t.2)

-- of two places the one before the other
pub two_places : {X : Type 0} (J : List X) (i k : ℕ) (e d : X) → slice_get J i ≡ Some e → slice_get J k ≡ Some d → i < k → (before : List X) × (between : List X) × (after : List X) × (J ≡ before ++ e ∷ (between ++ d ∷ after))
two_places [] i k e d here there less = absurd (none_some here)
two_places (x ∷ J) i zero e d here there less = absurd (omega (arith, less))
two_places (x ∷ J) zero (suc k) e d here there less = let t = split_at J k d there in ([], t.0, t.1, ap (λ (l : List _). x ∷ l) t.2 ∙ ap (λ (y : _). y ∷ (t.0 ++ d ∷ t.1)) (some_same here))
two_places (x ∷ J) (suc i) (suc k) e d here there less = let t = two_places J i k e d here there (omega (arith, less)) in (x ∷ t.0, t.1, t.2, ap (λ (l : List _). x ∷ l) t.3)

-- ---- an item that a simulator is sent

pub record IsSentAt (J : List Entry) (i : ℕ) (first : List Item) (item : Item) : Type 0 where
  pub before : List Entry
  pub sim : SimNo
  pub later : List Entry
  pub parts : J ≡ before ++ Sent sim item ∷ later
  pub whose : sim.0 ≡ i
  pub sent_before : sent before i ≡ first

-- where it stands among all that the simulator is sent
pub sent_at : (J : List Entry) (i : ℕ) (first : List Item) (item : Item) (more : List Item) → sent J i ≡ first ++ item ∷ more → IsSentAt J i first item
sent_at [] i first item more is = absurd (no_items first is)
  where
    no_items : (l : List Item) → [] ≡ l ++ item ∷ more → ⊥
    no_items [] e = cc
    no_items (x ∷ l) e = cc
sent_at (Got s m ∷ J) i first item more is = let t = sent_at J i first item more is in record { before = Got s m ∷ t.before; sim = t.sim; later = t.later; parts = ap (λ (l : List Entry). Got s m ∷ l) t.parts; whose = t.whose; sent_before = t.sent_before }
sent_at (Sent s x ∷ J) i first item more is = go (λ l e. sent_at J i l item more e) (s.0 == i) refl is
  where
    tails : {y z : Item} {ys zs : List Item} → y ∷ ys ≡ z ∷ zs → (y ≡ z) × (ys ≡ zs)
    tails e = (cc, cc)

    mine : (l : List Item) → ((k : List Item) → sent J i ≡ k ++ item ∷ more → IsSentAt J i k item) → (s.0 == i) ≡ true → x ∷ sent J i ≡ l ++ item ∷ more → IsSentAt (Sent s x ∷ J) i l item
    mine [] further own q = record { before = []; sim = s; later = J; parts = ap (λ (y : Item). Sent s y ∷ J) (tails q).0; whose = eqb-true s.0 i own; sent_before = refl }
    mine (y ∷ l) further own q =
        let t = further l (tails q).1 in
        record {
          before = Sent s x ∷ t.before;
          sim = t.sim;
          later = t.later;
          parts = ap (λ (k : List Entry). Sent s x ∷ k) t.parts;
          whose = t.whose;
          sent_before = ap (λ (b : Bool). cons_option (if b then Some x else None) (sent t.before i)) own ∙ ap (λ (k : List Item). x ∷ k) t.sent_before ∙ ap (λ (z : Item). z ∷ l) (tails q).0;
        }

    go : ((k : List Item) → sent J i ≡ k ++ item ∷ more → IsSentAt J i k item) → (b : Bool) → (s.0 == i) ≡ b → cons_option (if b then Some x else None) (sent J i) ≡ first ++ item ∷ more → IsSentAt (Sent s x ∷ J) i first item
    go further true own e = mine first further own e
    go further false own e =
        let t = further first e in
        record {
          before = Sent s x ∷ t.before;
          sim = t.sim;
          later = t.later;
          parts = ap (λ (k : List Entry). Sent s x ∷ k) t.parts;
          whose = t.whose;
          sent_before = ap (λ (b : Bool). cons_option (if b then Some x else None) (sent t.before i)) own ∙ t.sent_before;
        }

-- ---- a Step of a journal that stands

step_ready : (P : Plan) (H : List Entry) (t : SimNo) (x : Tier) (inputs : List Input) (advance : ℤ) → IsOrderlySoFar IsReady IsAdvance P H → IsAllowed IsReady IsAdvance P (view P H) (Sent t (Step x inputs advance)) → IsReady P (view P H) t.0 x
step_ready P H t x inputs advance orderly allowed = go (view P H).owed refl allowed.1
  where
    is_step_entry : Entry → Bool
    is_step_entry (Sent s item) = is_step item
    is_step_entry (Got s m) = false

    go : (o : Option Owed) → (view P H).owed ≡ o → IsNext IsReady IsAdvance P (view P H) o (Sent t (Step x inputs advance)) → IsReady P (view P H) t.0 x
    go None e next = next.0.0
    go (Some o) e next = absurd (true≢false (ap is_step_entry next ∙ (reached_sound IsReady IsAdvance P (λ V s y r. r) H orderly).later o e))

-- it is at a time of the run, and goes to one of its simulators
pub step_time_of : (P : Plan) (J before later : List Entry) (t : SimNo) (x : Tier) (inputs : List Input) (advance : ℤ) → Stands P J → J ≡ before ++ Sent t (Step x inputs advance) ∷ later
    → (pos 0 ≤ℤ x.time) × (x.time ≤ℤ latest_end) × (t.0 < sim_count P)
step_time_of P J before later t x inputs advance stands parts =
    let both = orderly_front IsReady IsAdvance P before (Sent t (Step x inputs advance) ∷ later) (subst (IsOrderlySoFar IsReady IsAdvance P) parts stands.orderly.0) in
    ready_time P stands.valid before both.0 t.0 x (step_ready P before t x inputs advance both.0 both.1.0)
