-- A turn's end: the trigger beyond the loop limit, what comes about by the act, and that the agenda
-- mirrors the view then.
use Rattle.std.proofs.Common.{◌≡◌, ℕ, zero, suc, ◌+◌, ◌<◌, ◌≤◌, Bool, true, false, ◌&&◌, List, [], ◌∷◌, ◌++◌, length, map, take, drop, get_or, Option, Some, None, is_some, option_map, slice_get, slice_set, refl, sym, ap, ◌∙◌, subst, inl, inr, arith, add-one, true≢false, ◌==◌, int_lt, nat_le, if◌then◌else◌}
use Rattle.std.proofs.lemmas.Bool.{eqb-true}
use Rattle.mk_base.specs.declared.tier.Tier.{Tier}
use Rattle.mk_base.specs.declared.tier.Via.{Via}
use Rattle.mk_base.specs.Lists.{IsIn}
use Rattle.mk_base.specs.Tiers.{delayed}
use Rattle.mk_base.proofs.Lists.{in_filter, length_set, some_same}
use Rattle.mk_plan.specs.declared.Plan.{Plan}
use Rattle.mk_plan.specs.declared.Conn.{Conn}
use Rattle.mk_plan.specs.Plans.{owner}
use Rattle.mk_plan.specs.Acts.{Act, made, output}
use Rattle.mk_plan.specs.Journals.{View, Fault, LoopLimit, beyond}
use Rattle.mk_nextstep.specs.declared.queue.Due.{Due}
use Rattle.mk_nextstep.specs.Queues.{time_of, added}
use Rattle.mk_tiers.specs.Seen.{Seen, AreOfPlan, start_in, is_busy_in}
use Rattle.mk_order.proofs.Limits.{IsInLimit}
use Rattle.mk_order.proofs.Entries.{Brings, brought_within}
use Rattle.mk_order.proofs.LoopFaults.{beyond_missing, beyond_late, beyond_within, beyond_here}
use Rattle.mk_order.proofs.Pends.{PendsWith, with_brought, with_not_brought}
use Rattle.mk_order.proofs.EndedTurns.{brings_by, not_to}
use Rattle.mk_sched_agenda.specs.declared.limits.Limits.{Limits}
use Rattle.mk_sched_agenda.specs.declared.outlets.Outlet.{Outlet}
use Rattle.mk_sched_agenda.specs.declared.outlets.Beyond.{Beyond}
use Rattle.mk_sched_agenda.specs.Outlets.{IsOutletOf, AreOutletsOf}
use Rattle.mk_plan.specs.Deliveries.{triggering_from}
use Rattle.mk_sched_agenda.specs.Dues.{queue_in, limits_of}
use Rattle.mk_sched_agenda.specs.inner.Dues.{IsTidy, is_open, is_inside, is_first, with_start, with_trigger}
use Rattle.mk_sched_agenda.specs.Mirrors.{flag_of}
use Rattle.mk_sched_agenda.specs.Endings.{fault_of}
use Rattle.mk_sched_agenda.specs.inner.Coming.{IsEnding, HasCome, is_beyond, beyond_over, either, first_beyond}
use Rattle.mk_sched_agenda.proofs.Queued.{added_is}
use Rattle.mk_sched_agenda.proofs.Tabled.{own_else, busy_here, busy_else}
use Rattle.mk_sched_agenda.proofs.Tidying.{queue_here, queue_else}
use Rattle.mk_base.proofs.Counts.{same_or_not}
use Rattle.mk_base.proofs.Bools.{and_holds, both_hold}
use Rattle.mk_base.proofs.Items.{take_get, take_whole}

-- ---- the connections of a simulator

pub from_of : (P : Plan) (s : ℕ) (c : Conn) → IsIn c (triggering_from P s) → IsIn c P.conns × (c.triggering ≡ true) × (owner P c.from ≡ s)
from_of P s c m =
    let t = in_filter (λ (d : Conn). d.triggering && (owner P d.from == s)) c P.conns m in
    let u = both_hold c.triggering (owner P c.from == s) t.1 in
    (t.0, u.0, eqb-true (owner P c.from) s u.1)

-- ---- the trigger beyond the loop limit

module _ (P : Plan) (s : ℕ) (f : Act) where
  value_of : (o : Option (List ℕ)) → is_some o ≡ true → (w : List ℕ) × (o ≡ Some w)
  value_of None h = absurd (true≢false (sym h))
  value_of (Some w) h = (w, refl)

  none_of : (o : Option (List ℕ)) → is_some o ≡ false → o ≡ None
  none_of None h = refl
  none_of (Some w) h = absurd (true≢false h)

  abbrev first_fault : List Conn → List Outlet → Option Fault
  first_fault cs os = option_map fault_of (first_beyond (limits_of P) (made f) os (map (λ c. is_some (output P f c.from c.from_attr)) cs))

  over_fault : (o : Outlet) (g b : Bool) → (is_beyond (limits_of P) (delayed (made f) o.via)) ≡ b → (more : Option Beyond)
      → option_map fault_of (either (beyond_over (limits_of P) (made f) o g) more) ≡ (if g && b then Some (LoopLimit o.to.0 (delayed (made f) o.via).time) else option_map fault_of more)
  over_fault o false b e more = refl
  over_fault o true true e more = rw e refl
  over_fault o true false e more = rw e refl

  beyond_more : (c : Conn) (cs : List Conn) (o : Outlet) (os : List Outlet) → owner P c.from ≡ s → IsOutletOf P c o → beyond P s f cs ≡ first_fault cs os → beyond P s f (c ∷ cs) ≡ first_fault (c ∷ cs) (o ∷ os)
  beyond_more c cs o os mine here more = go (is_some (output P f c.from c.from_attr)) refl (int_lt (delayed (made f) c.via).time P.until) refl ((delayed (made f) c.via).tier == P.loops + 1) refl
    where
      rest : Option Beyond
      rest = first_beyond (limits_of P) (made f) os (map (λ c. is_some (output P f c.from c.from_attr)) cs)

      tested : (e h : Bool) → int_lt (delayed (made f) c.via).time P.until ≡ e → ((delayed (made f) c.via).tier == P.loops + 1) ≡ h → is_beyond (limits_of P) (delayed (made f) o.via) ≡ (e && h)
      tested e h p q = ap (λ (v : Via). is_beyond (limits_of P) (delayed (made f) v)) here.via ∙ ap (λ (a : Bool). a && ((delayed (made f) c.via).tier == P.loops + 1)) p ∙ ap (λ (a : Bool). e && a) q

      said : (g e h : Bool) → is_some (output P f c.from c.from_attr) ≡ g → int_lt (delayed (made f) c.via).time P.until ≡ e → ((delayed (made f) c.via).tier == P.loops + 1) ≡ h
          → first_fault (c ∷ cs) (o ∷ os) ≡ (if g && (e && h) then Some (LoopLimit o.to.0 (delayed (made f) o.via).time) else option_map fault_of rest)
      said g e h is p q = ap (λ (b : Bool). option_map fault_of (either (beyond_over (limits_of P) (made f) o b) rest)) is ∙ over_fault o g (e && h) (tested e h p q) rest

      go : (g : Bool) → is_some (output P f c.from c.from_attr) ≡ g → (e : Bool) → int_lt (delayed (made f) c.via).time P.until ≡ e → (h : Bool) → ((delayed (made f) c.via).tier == P.loops + 1) ≡ h → beyond P s f (c ∷ cs) ≡ first_fault (c ∷ cs) (o ∷ os)
      go false is e p h q = beyond_missing P s f c cs mine (none_of (output P f c.from c.from_attr) is) ∙ more ∙ sym (said false e h is p q)
      go true is false p h q = let w = value_of (output P f c.from c.from_attr) is in beyond_late P s f c cs mine w.0 w.1 p ∙ more ∙ sym (said true false h is p q)
      go true is true p false q = let w = value_of (output P f c.from c.from_attr) is in beyond_within P s f c cs mine w.0 w.1 p q ∙ more ∙ sym (said true true false is p q)
      go true is true p true q = let w = value_of (output P f c.from c.from_attr) is in
          beyond_here P s f c cs mine w.0 w.1 p q ∙ ap (λ (n : ℕ). Some (LoopLimit n (delayed (made f) c.via).time)) (sym here.to) ∙ ap (λ (v : Via). Some (LoopLimit o.to.0 (delayed (made f) v).time)) (sym here.via) ∙ sym (said true true true is p q)

  pub beyond_is : (cs : List Conn) (os : List Outlet) → ((c : Conn) → IsIn c cs → owner P c.from ≡ s) → AreOutletsOf P cs os → beyond P s f cs ≡ first_fault cs os
  beyond_is [] [] from all = refl
  beyond_is [] (o ∷ os) from all = absurd all
  beyond_is (c ∷ cs) [] from all = absurd all
  beyond_is (c ∷ cs) (o ∷ os) from all = beyond_more c cs o os (from c (inl refl)) all.0 (beyond_is cs os (λ d m. from d (inr m)) all.1)

-- ---- bounds after a trigger

module _ (Q : List (List Due)) (O : List Bool) (B : Seen) (tidy : IsTidy Q O B) (i : ℕ) (low : i < length Q) (x : Tier) where
  trigger_busy : (q : List Due) (j : ℕ) → is_busy_in (with_trigger B O q i x) j ≡ is_busy_in B j
  trigger_busy q j = go (is_first x q) refl (is_open O i) refl
    where
      go : (a : Bool) → is_first x q ≡ a → (b : Bool) → is_open O i ≡ b → is_busy_in (with_trigger B O q i x) j ≡ is_busy_in B j
      go false e b h = rw e refl
      go true e true h = rw e (rw h refl)
      go true e false h = rw e (rw h (elim (same_or_not j i) [
        | inl k ↦ ap (is_busy_in (with_start B i (Some x) false)) k ∙ busy_here B (with_start B i (Some x) false) i (Some x) false refl (omega (arith, low, tidy.busies)) ∙ sym (ap (is_busy_in B) k ∙ tidy.busy i ∙ h)
        | inr n ↦ busy_else B (with_start B i (Some x) false) i (Some x) false refl j n
      ]))

  trigger_kept : (q : List Due) (j : ℕ) → is_busy_in B j ≡ true → start_in (with_trigger B O q i x) j ≡ start_in B j
  trigger_kept q j on = go (is_first x q) refl (is_open O i) refl
    where
      go : (a : Bool) → is_first x q ≡ a → (b : Bool) → is_open O i ≡ b → start_in (with_trigger B O q i x) j ≡ start_in B j
      go false e b h = rw e refl
      go true e true h = rw e (rw h refl)
      go true e false h = rw e (rw h (own_else B (with_start B i (Some x) false) i (Some x) false refl (omega (arith, low, tidy.owns)) j (λ k. true≢false (sym on ∙ ap (is_busy_in B) k ∙ tidy.busy i ∙ h))))

-- ---- what comes about, connection by connection

module _ (P : Plan) (V : View) (s : ℕ) (f : Act) (closed : Bool) (cs : List Conn) (c : Conn) where
  pub come_apart : ((j : ℕ) (y : Tier) → Brings P s f j y c → ⊥) → (Q : List (List Due)) (B : Seen) → HasCome P V s f closed cs Q B → HasCome P V s f closed (cs ++ c ∷ []) Q B
  come_apart none Q B h = record {
    plan = h.plan;
    count = h.count;
    queues = λ j low. with_not_brought P time_of flag_of V s f closed cs c j (none j) (queue_in Q j) (h.queues j low);
    busy = h.busy;
    others = h.others;
    kept = h.kept;
  }

  pub come_more : (x : Tier) (i : ℕ) → i ≡ owner P c.to → Brings P s f (owner P c.to) x c → (Q R : List (List Due)) (O : List Bool) (B C : Seen) → IsTidy Q O B → i < length Q → HasCome P V s f closed cs Q B
      → R ≡ slice_set Q i (added true x (queue_in Q i)) → C ≡ with_trigger B O (queue_in Q i) i x → AreOfPlan P C → HasCome P V s f closed (cs ++ c ∷ []) R C
  come_more x i to b Q R O B C tidy low h grown is of = record {
    plan = of;
    count = ap length grown ∙ length_set Q i (added true x (queue_in Q i)) ∙ h.count;
    queues = λ j under. subst (λ (q : List Due). PendsWith P time_of flag_of V s f closed (cs ++ c ∷ []) j q) (sym (ap (λ (l : List (List Due)). queue_in l j) grown)) (elim (same_or_not j i) [
      | inl e ↦ subst (λ (k : ℕ). PendsWith P time_of flag_of V s f closed (cs ++ c ∷ []) k (queue_in (slice_set Q i (added true x (queue_in Q i))) k)) (sym e)
          (subst (PendsWith P time_of flag_of V s f closed (cs ++ c ∷ []) i) (sym (queue_here Q i (added true x (queue_in Q i)) low))
          (with_brought P time_of flag_of V s f closed cs c i x (subst (λ (k : ℕ). Brings P s f k x c) (sym to) b) (queue_in Q i) (added true x (queue_in Q i)) (added_is true x (queue_in Q i)) (h.queues i (omega (arith, low, h.count)))))
      | inr n ↦ subst (PendsWith P time_of flag_of V s f closed (cs ++ c ∷ []) j) (sym (queue_else Q i j (added true x (queue_in Q i)) n))
          (with_not_brought P time_of flag_of V s f closed cs c j (λ y. not_to P s f j y c (λ e. n (sym e ∙ sym to))) (queue_in Q j) (h.queues j under))
    ]);
    busy = ap (λ (D : Seen). is_busy_in D s) is ∙ trigger_busy Q O B tidy i low x (queue_in Q i) s ∙ h.busy;
    others = λ j n. ap (λ (D : Seen). is_busy_in D j) is ∙ trigger_busy Q O B tidy i low x (queue_in Q i) j ∙ h.others j n;
    kept = λ j n on.
        let was : is_busy_in B j ≡ true = sym (ap (λ (D : Seen). is_busy_in D j) is ∙ trigger_busy Q O B tidy i low x (queue_in Q i) j) ∙ on in
        ap (λ (D : Seen). start_in D j) is ∙ trigger_kept Q O B tidy i low x (queue_in Q i) j was ∙ h.kept j n was;
  }

-- a given output that is inside the limits is brought
pub brought_by : (P : Plan) (s : ℕ) (f : Act) (L : Limits) (o : Outlet) (c : Conn) (x : Tier) (g : Bool) → IsOutletOf P c o → IsIn c (triggering_from P s) → g ≡ is_some (output P f c.from c.from_attr) → x ≡ made f → L ≡ limits_of P
    → (g && is_inside L (delayed x o.via)) ≡ true → Brings P s f (owner P c.to) (delayed x o.via) c
brought_by P s f L o c x g is m given at limits on =
    let t = from_of P s c m in
    let u = both_hold g (is_inside L (delayed x o.via)) on in
    let w = value_of P s f (output P f c.from c.from_attr) (sym given ∙ u.0) in
    let same : delayed x o.via ≡ delayed (made f) c.via = ap (λ (y : Tier). delayed y o.via) at ∙ ap (delayed (made f)) is.via in
    let early : int_lt (delayed (made f) c.via).time P.until ≡ true = (both_hold (int_lt (delayed (made f) c.via).time P.until) (nat_le (delayed (made f) c.via).tier P.loops) (sym (ap (λ (M : Limits). is_inside M (delayed x o.via)) limits ∙ ap (is_inside (limits_of P)) same) ∙ u.1)).0 in
    subst (λ (y : Tier). Brings P s f (owner P c.to) y c) (sym same) (brings_by P s f c w.0 t.0 t.1 t.2 w.1 early)

-- and no other
pub not_brought : (P : Plan) (s : ℕ) (f : Act) (L : Limits) (o : Outlet) (c : Conn) (x : Tier) (g : Bool) → IsInLimit P s f → IsOutletOf P c o → g ≡ is_some (output P f c.from c.from_attr) → x ≡ made f → L ≡ limits_of P
    → (g && is_inside L (delayed x o.via)) ≡ false → (j : ℕ) (y : Tier) → Brings P s f j y c → ⊥
not_brought P s f L o c x g kept is given at limits off j y b =
    let same : y ≡ delayed x o.via = b.is ∙ ap (delayed (made f)) (sym is.via) ∙ ap (λ (z : Tier). delayed z o.via) (sym at) in
    let inside : is_inside L (delayed x o.via) ≡ true = ap (is_inside L) (sym same) ∙ ap (λ (M : Limits). is_inside M y) limits ∙ brought_within P s f kept j y c b in
    true≢false (sym (and_holds g (is_inside L (delayed x o.via)) (given ∙ ap is_some b.given) inside) ∙ off)

-- ---- one by one

module _ (L : Limits) (x : Tier) where
  first_step : (os : List Outlet) (gs : List Bool) (k : ℕ) (d : Outlet) (g : Bool) → k < length os → length gs ≡ length os
      → first_beyond L x (drop k os) (drop k gs) ≡ either (beyond_over L x (get_or os k d) (get_or gs k g)) (first_beyond L x (drop (suc k) os) (drop (suc k) gs))
  first_step [] gs k d g low same = absurd (omega arith)
  first_step (o ∷ os) [] k d g low same = absurd (omega arith)
  first_step (o ∷ os) (h ∷ gs) zero d g low same = refl
  first_step (o ∷ os) (h ∷ gs) (suc k) d g low same = first_step os gs k d g (omega arith) (omega arith)

  pub first_none : (os : List Outlet) (gs : List Bool) (k : ℕ) (d : Outlet) (g : Bool) (r : Option Beyond) → k < length os → length gs ≡ length os → r ≡ beyond_over L x (get_or os k d) (get_or gs k g) → r ≡ None
      → first_beyond L x (drop k os) (drop k gs) ≡ first_beyond L x (drop (k + 1) os) (drop (k + 1) gs)
  first_none os gs k d g r low same is none = first_step os gs k d g low same ∙ ap (λ (o : Option Beyond). either o (first_beyond L x (drop (suc k) os) (drop (suc k) gs))) (sym is ∙ none) ∙ ap (λ (n : ℕ). first_beyond L x (drop n os) (drop n gs)) (sym (add-one k))

  pub first_some : (os : List Outlet) (gs : List Bool) (k : ℕ) (d : Outlet) (g : Bool) (r : Option Beyond) (b : Beyond) → k < length os → length gs ≡ length os → r ≡ beyond_over L x (get_or os k d) (get_or gs k g) → r ≡ Some b → first_beyond L x (drop k os) (drop k gs) ≡ Some b
  first_some os gs k d g r b low same is some = first_step os gs k d g low same ∙ ap (λ (o : Option Beyond). either o (first_beyond L x (drop (suc k) os) (drop (suc k) gs))) (sym is ∙ some)

  pub first_over : (os : List Outlet) (gs : List Bool) (k : ℕ) → length os ≤ k → first_beyond L x (drop k os) (drop k gs) ≡ None
  first_over [] gs zero high = refl
  first_over [] gs (suc k) high = refl
  first_over (o ∷ os) gs zero high = absurd (omega arith)
  first_over (o ∷ os) [] (suc k) high = none_left (drop k os)
    where
      none_left : (l : List Outlet) → first_beyond L x l [] ≡ None
      none_left [] = refl
      none_left (p ∷ l) = refl
  first_over (o ∷ os) (g ∷ gs) (suc k) high = first_over os gs k (omega arith)

pub outlet_at : (P : Plan) (cs : List Conn) (os : List Outlet) (k : ℕ) (d : Outlet) → k < length os → AreOutletsOf P cs os → (c : Conn) × (slice_get cs k ≡ Some c) × IsOutletOf P c (get_or os k d)
outlet_at P cs [] k d low all = absurd (omega arith)
outlet_at P [] (o ∷ os) k d low all = absurd all
outlet_at P (c ∷ cs) (o ∷ os) zero d low all = (c, refl, all.0)
outlet_at P (c ∷ cs) (o ∷ os) (suc k) d low all = outlet_at P cs os k d (omega arith) all.1

outlet_count : (P : Plan) (cs : List Conn) (os : List Outlet) → AreOutletsOf P cs os → length cs ≡ length os
outlet_count P [] [] all = refl
outlet_count P [] (o ∷ os) all = absurd all
outlet_count P (c ∷ cs) [] all = absurd all
outlet_count P (c ∷ cs) (o ∷ os) all = ap suc (outlet_count P cs os all.1)

flag_at : (P : Plan) (f : Act) (cs : List Conn) (k : ℕ) (c : Conn) (g : Bool) → slice_get cs k ≡ Some c → get_or (map (λ c. is_some (output P f c.from c.from_attr)) cs) k g ≡ is_some (output P f c.from c.from_attr)
flag_at P f [] k c g is = cc
flag_at P f (d ∷ cs) zero c g is = ap (λ (e : Conn). is_some (output P f e.from e.from_attr)) (some_same is)
flag_at P f (d ∷ cs) (suc k) c g is = flag_at P f cs k c g is

get_into : {X : Type 0} (xs : List X) (k : ℕ) (x : X) → slice_get xs k ≡ Some x → IsIn x xs
get_into [] k x is = cc
get_into (y ∷ ys) zero x is = inl (sym (some_same is))
get_into (y ∷ ys) (suc k) x is = inr (get_into ys k x is)

module _ (P : Plan) (V : View) (s : ℕ) (f : Act) (closed : Bool) (L : Limits) (os : List Outlet) (gs : List Bool) (x : Tier) (ending : IsEnding P s f L os gs x) where
  -- one connection more, by what `bring` ensures
  pub come_next : (k : ℕ) (d : Outlet) (g : Bool) → k < length os → (Q R : List (List Due)) (B C : Seen) → HasCome P V s f closed (take k (triggering_from P s)) Q B
      → ((c : Conn) → IsOutletOf P c (get_or os k d) → IsIn c (triggering_from P s) → get_or gs k g ≡ is_some (output P f c.from c.from_attr) → x ≡ made f → L ≡ limits_of P → IsInLimit P s f → HasCome P V s f closed (take k (triggering_from P s)) Q B → HasCome P V s f closed (take k (triggering_from P s) ++ c ∷ []) R C)
      → HasCome P V s f closed (take (k + 1) (triggering_from P s)) R C
  come_next k d g low Q R B C h more =
      let t = outlet_at P (triggering_from P s) os k d low ending.outlets in
      subst (λ (cs : List Conn). HasCome P V s f closed cs R C) (sym (ap (λ (n : ℕ). take n (triggering_from P s)) (add-one k) ∙ take_get (triggering_from P s) k t.0 t.1))
      (more t.0 t.2 (get_into (triggering_from P s) k t.0 t.1) (ap (λ (l : List Bool). get_or l k g) ending.given ∙ flag_at P f (triggering_from P s) k t.0 g t.1) ending.made ending.limits ending.kept h)

  pub come_all : (k : ℕ) → length os ≤ k → (Q : List (List Due)) (B : Seen) → HasCome P V s f closed (take k (triggering_from P s)) Q B → HasCome P V s f closed (triggering_from P s) Q B
  come_all k high Q B h = subst (λ (cs : List Conn). HasCome P V s f closed cs Q B) (take_whole (triggering_from P s) k (omega (arith, high, outlet_count P (triggering_from P s) os ending.outlets))) h
