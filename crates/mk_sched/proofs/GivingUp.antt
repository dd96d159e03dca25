-- What a stock is told where nobody is ready, and how few outputs it then holds.
use Rattle.std.proofs.Common.{◌≡◌, ◌≢◌, inl, inr, ℕ, ◌<◌, ◌≤◌, ◌≤ℤ◌, ℤ, Bool, true, false, min, if◌then◌else◌, List, length, Option, Some, None, Result, Ok, Err, IfOk, refl, sym, ap, ◌∙◌, subst, arith, MatchOption, pos, slice_get, unwrap_or}
use Rattle.std.proofs.lemmas.Int.{ints}
use Rattle.mk_base.specs.declared.Mem.{Mem}
use Rattle.mk_base.specs.declared.tier.Tier.{Tier}
use Rattle.mk_base.specs.Tiers.{IsUpTo, moment, up_to}
use Rattle.mk_base.proofs.Lists.{none_some}
use Rattle.mk_base.proofs.TierOrder.{up_to_antisym, up_to_self, up_to_trans}
use Rattle.mk_plan.specs.declared.Plan.{Plan}
use Rattle.mk_plan.specs.declared.Entry.{Entry}
use Rattle.mk_plan.specs.Plans.{IsValidPlan, sim_count}
use Rattle.mk_plan.specs.Deliveries.{supply}
use Rattle.mk_plan.specs.Journals.{View, view}
use Rattle.mk_plan.specs.Ready.{start}
use Rattle.mk_plan.specs.Walks.{Reach, nobody, IsEarliest}
use Rattle.mk_order.proofs.LaterQuestions.{earliest_is_mark, unreached_is_mark}
use Rattle.mk_order.specs.Pending.{IsMarkOf}
use Rattle.mk_order.proofs.Opened.{outputs_opened}
use Rattle.mk_tiers.specs.declared.bits.Bits.{Bits}
use Rattle.mk_tiers.specs.Seen.{Seen, AreOfPlan, IsEarliestIn}
use Rattle.mk_tiers.specs.Sets.{IsEmpty, IsTaken}
use Rattle.mk_tiers.proofs.Counting.{without_other}
use Rattle.mk_sched_agenda.specs.Mirrors.{Mirrors, AgendaState}
use Rattle.mk_sched_agenda.proofs.Mirroring.{earliest_is}
use Rattle.mk_sched_open.specs.Sims.{AreSimsOf}
use Rattle.mk_buffers.specs.Bounds.{most_kept}
use Rattle.mk_buffers.specs.Marking.{Marked, greater}
use Rattle.mk_buffers.specs.Standing.{HasSameMarks, least_mark, mark_of, outputs_held}
use Rattle.mk_buffers_log.proofs.Places.{apart_or_same}
use Rattle.mk_sched_supply.specs.declared.stock.Stock.{Stock}
use Rattle.mk_sched_supply.specs.Stock.{IsStockOf}
use Rattle.mk_sched_supply.proofs.Holding.{most_at}
use Rattle.mk_sched.specs.declared.derived.Derived.{Derived}
use Rattle.mk_sched.specs.declared.faults.Ended.{Ended}
use Rattle.mk_sched.specs.declared.faults.Taken.{Taken}
use Rattle.mk_sched.specs.Answers.{SomeReady}
use Rattle.mk_sched.specs.Holding.{IsFloor, IsHeld, IsMarked}
use Rattle.mk_sched.specs.inner.Holding.{AllAreTold, AreToldBut, HasToldRest, HasGivenUp, IsToldTo, Notes}
use Rattle.mk_sched.specs.inner.Derived.{IsDerived, end_after_arrive}

-- a simulator's mark is the least tiered time at which it may still step, or any where nothing can
-- make it step
pub mark_of_earliest : (P : Plan) (V : View) (s : ℕ) (end : Tier) (o : Option Tier) → MatchOption o ((y : Tier) → Reach P (start P V) nobody s y → ⊥) (λ e. IsEarliest P (start P V) s e) → (m : Tier) → m ≡ unwrap_or o end → IsMarkOf P V s m
mark_of_earliest P V s end None h m is = unreached_is_mark P V s m h
mark_of_earliest P V s end (Some e) h m is = subst (IsMarkOf P V s) (sym is) (earliest_is_mark P V s e h)

-- it isn't before a floor
pub mark_above : (P : Plan) (V : View) (s : ℕ) (o : Option Tier) → s < sim_count P → MatchOption o ((y : Tier) → Reach P (start P V) nobody s y → ⊥) (λ e. IsEarliest P (start P V) s e) → (m : Tier) → IsFloor P V m → (end x : Tier) → end ≡ moment P.until → x ≡ unwrap_or o end → IsUpTo m x
mark_above P V s None low h m floor end x last is = subst (IsUpTo m) (sym (is ∙ last)) floor.end
mark_above P V s (Some e) low h m floor end x last is = subst (IsUpTo m) (sym is) (floor.walks s e low h.reached)

up_to_greater : (m x y : Tier) → IsUpTo m y → IsUpTo m (greater x y)
up_to_greater m x y h = go (up_to y x) refl
  where
    go : (b : Bool) → up_to y x ≡ b → IsUpTo m (if b then x else y)
    go true e = up_to_trans m y x h e
    go false e = h

-- whatever was answered
pub on_any : {X : Type 0} {A E : Type 0} (r : Result A E) → X → IfOk r (λ _. X)
on_any (Ok a) x = x
on_any (Err e) x = tt

-- ---- what was told

-- the mark has become the greater of it and the time from which on s may step, or the run's end
pub told_here : (P : Plan) (B : Seen) (s : ℕ) (e : Option Tier) (m x y : Tier) → IsEarliestIn P B s e → x ≡ unwrap_or e (moment P.until) → m ≡ greater y x → IsToldTo P B s m
told_here P B s e m x y h is rose = (e, h, subst (λ (u : Tier). IsUpTo u m) is (subst (IsUpTo x) (sym rose) (up_to_greater x y x (up_to_self x))))

-- the mark is as it was
pub told_same : (P : Plan) (B : Seen) (s : ℕ) (m n : Tier) → n ≡ m → IsToldTo P B s m → IsToldTo P B s n
told_same P B s m n is told = subst (IsToldTo P B s) (sym is) told

-- one more was told, and isn't in the set any more
pub told_more : (P : Plan) (B : Seen) (k l : Stock) (old new : Bits) (n : ℕ) → IsTaken old n new → (n < sim_count P → IsToldTo P B n (mark_of l.buffers n)) → ((r : ℕ) → r ≢ n → mark_of l.buffers r ≡ mark_of k.buffers r)
    → AreToldBut P B k old → AreToldBut P B l new
told_more P B k l old new n taken here others told s low h out = elim (apart_or_same s n) [
  | inl same ↦ subst (λ (i : ℕ). IsToldTo P B i (mark_of l.buffers i)) (sym same) (here (subst (λ (i : ℕ). i < sim_count P) same low))
  | inr apart ↦ told_same P B s (mark_of k.buffers s) (mark_of l.buffers s) (others s apart) (told s low h (sym (without_other old n new taken.out s h apart) ∙ out))
]

-- nobody is left
pub told_all : (P : Plan) (B : Seen) (k : Stock) (untold : Bits) → IsEmpty untold → AreToldBut P B k untold → AllAreTold P B k
told_all P B k untold none told s low h = told s low h (none s h)

-- marks as they were, and whoever may step from another time on noted
pub told_on : (P : Plan) → IsValidPlan P → (K L : Derived) → AreOfPlan P K.agenda.bounds → HasSameMarks K.stock.buffers L.stock.buffers → Notes K L → AreToldBut P K.agenda.bounds K.stock K.untold → AreToldBut P L.agenda.bounds L.stock L.untold
told_on P valid K L of same notes told s low h out =
    let t = told s low h (notes.grown s h out) in
    let mark : mark_of L.stock.buffers s ≡ mark_of K.stock.buffers s = ap (λ (m : Marked). unwrap_or (slice_get m.marks s) (moment (pos 0))) same in
    (t.0, notes.same P valid of s (omega (arith, low, of.count)) h out t.0 t.1, subst (IsUpTo (unwrap_or t.0 (moment P.until))) (sym mark) t.2)

-- over a message
pub told_after : (P : Plan) → IsValidPlan P → (K L : Derived) → AreOfPlan P K.agenda.bounds → HasSameMarks K.stock.buffers L.stock.buffers → AreToldBut P K.agenda.bounds K.stock K.untold
    → (r : Result Taken Mem) → IfOk r (λ _. Notes K L) → HasToldRest P L (end_after_arrive r)
told_after P valid K L of same told (Ok t) notes going = told_on P valid K L of same notes told
told_after P valid K L of same told (Err e) notes going = absurd (none_some (sym going))

-- the marks of what was told are those of simulators
after_end : (t : ℤ) (e : Tier) → t ≤ℤ e.time → IsUpTo (moment t) e
after_end t e h = grind (arith, ints)

pub told_marked : (P : Plan) (V : View) (A : AgendaState) → Mirrors P V A → (s : ℕ) (m : Tier) → IsToldTo P A.bounds s m → IsMarkOf P V s m → IsMarked P V s m
told_marked P V A mirrors s m told mark = go told.0 (earliest_is P V A mirrors s told.0 told.1) told.2
  where
    go : (o : Option Tier) → MatchOption o ((y : Tier) → Reach P (start P V) nobody s y → ⊥) (λ e. IsEarliest P (start P V) s e) → IsUpTo (unwrap_or o (moment P.until)) m → IsMarked P V s m
    go None none up = record { here = λ e is soon. absurd (none e is.reached); past = λ late. up }
    go (Some x) h up = record {
      here = λ e is soon. up_to_antisym m x (mark.low x h.reached) up ∙ up_to_antisym x e (h.least e is.reached) (is.least x h.reached);
      past = λ late. up_to_trans (moment P.until) x m (after_end P.until x (late x h)) up;
    }

-- no mark is before a floor
pub told_floor : (P : Plan) (V : View) (A : AgendaState) → Mirrors P V A → (s : ℕ) → s < sim_count P → (f m : Tier) → IsToldTo P A.bounds s m → IsFloor P V f → IsUpTo f m
told_floor P V A mirrors s low f m told floor =
    up_to_trans f (unwrap_or told.0 (moment P.until)) m (mark_above P V s told.0 low (earliest_is P V A mirrors s told.0 told.1) f floor (moment P.until) (unwrap_or told.0 (moment P.until)) refl refl) told.2

few_sims : (P : Plan) → IsValidPlan P → (s : ℕ) → s < sim_count P → s < 256
few_sims P valid s low = omega (arith, low, valid.well_formed.limits.sims.1)

-- the agenda has each simulator's steps
pub whole_of : (P : Plan) (J : List Entry) (K : Derived) (end : Option Ended) → IsDerived P J K end → end ≡ None → sim_count P ≤ length K.agenda.queues
whole_of P J K end derived going = let count = (derived.current going).agenda.plan.count in omega (arith, count)

-- what is derived, with another stock of the same view
pub derived_stock : (P : Plan) (J : List Entry) (K L : Derived) (end : Option Ended) → L.sims ≡ K.sims → L.agenda ≡ K.agenda → ((V : View) → Mirrors P V K.agenda → IsStockOf P V K.stock → IsStockOf P V L.stock) → IsDerived P J K end → IsDerived P J L end
derived_stock P J K L end sims agenda stock derived = record {
  valid = derived.valid;
  orderly = derived.orderly;
  within = derived.within;
  current = λ going. let now = derived.current going in record {
    sims = subst (AreSimsOf P (view P J) _) (sym sims) now.sims;
    agenda = subst (Mirrors P (view P J)) (sym agenda) now.agenda;
    stock = stock (view P J) now.agenda now.stock;
    no_fault = now.no_fault;
    none_owed = now.none_owed;
  };
}

-- what is derived, with a stock that was told of all
pub all_given_up : (P : Plan) (J : List Entry) (K L : Derived) (end : Option Ended) → L.sims ≡ K.sims → L.agenda ≡ K.agenda → ((V : View) → Mirrors P V K.agenda → IsStockOf P V K.stock → IsStockOf P V L.stock)
    → ((V : View) → Mirrors P V K.agenda → IsStockOf P V K.stock → AreToldBut P K.agenda.bounds K.stock K.untold → AllAreTold P K.agenda.bounds L.stock) → IsDerived P J K end → HasToldRest P K end → IsDerived P J L end × HasGivenUp P J L end × HasToldRest P L end
all_given_up P J K L end sims agenda stock told derived had =
    let all : end ≡ None → AllAreTold P L.agenda.bounds L.stock = λ going. subst (λ (A : AgendaState). AllAreTold P A.bounds L.stock) (sym agenda) (told (view P J) (derived.current going).agenda (derived.current going).stock (had going)) in
    (derived_stock P J K L end sims agenda stock derived, (λ going nobody. all going), (λ going s low h out. all going s low h))

-- ---- what a core holds where it has not ended and nobody is ready

pub few_kept : (P : Plan) (J : List Entry) (K : Derived) (end : Option Ended) → IsDerived P J K end → HasGivenUp P J K end → (n : ℕ) → ((V : View) → IsStockOf P V K.stock → n ≤ most_kept P (supply P V.acts) (least_mark K.stock.buffers))
    → end ≡ None → (SomeReady P J → ⊥) → (m : Tier) → IsFloor P (view P J) m → n ≤ most_kept P (supply P (view P J).acts) m
few_kept P J K end derived given_up n few going nobody m floor =
    let now = derived.current going in
    most_at P (view P J) K.stock now.stock m (λ s low. told_floor P (view P J) K.agenda now.agenda s low m (mark_of K.stock.buffers s) (given_up going nobody s low (few_sims P derived.valid s low)) floor) n (few (view P J) now.stock)

pub held_of : (P : Plan) (J : List Entry) (K : Derived) (end : Option Ended) → IsDerived P J K end → HasGivenUp P J K end → (n : ℕ) → n ≡ min (outputs_held K.stock.buffers) 18446744073709551615
    → ((V : View) → IsStockOf P V K.stock → n ≤ most_kept P (supply P V.acts) (least_mark K.stock.buffers)) → end ≡ None → (SomeReady P J → ⊥) → IsHeld P J n
held_of P J K end derived given_up n count few going nobody =
    let now = derived.current going in
    let stock = now.stock in
    record {
      buffers = K.stock.buffers;
      added = stock.supplied.0;
      stands = stock.supplied.1;
      outputs = λ e attr given. stock.supplied.2.outputs e attr given ∙ outputs_opened P (view P J) e attr;
      marks = λ s low. told_marked P (view P J) K.agenda now.agenda s (mark_of K.stock.buffers s) (given_up going nobody s low (few_sims P derived.valid s low)) (stock.marks s low);
      count = count;
      few = few (view P J) stock;
    }
