-- A plan's limit of entries has no part in what an orderly journal that owes nothing means.
use Rattle.std.proofs.Common.{◌≡◌, ℕ, ℤ, List, [], ◌∷◌, Option, Some, None, inl, inr, sym, subst}
use Rattle.mk_base.specs.declared.tier.Tier.{Tier}
use Rattle.mk_plan.specs.declared.Plan.{Plan}
use Rattle.mk_plan.specs.declared.Item.TheVariants.{Step, GetData, Answer, Refuse}
use Rattle.mk_plan.specs.declared.Entry.{Entry}
use Rattle.mk_plan.specs.declared.Entry.TheVariants.{Sent, Got}
use Rattle.mk_plan.specs.Journals.{View, Owed, note, empty_view}
use Rattle.mk_plan.specs.Walks.{Reach, from_start, along, nobody}
use Rattle.mk_plan.specs.Ready.{IsReady, start}
use Rattle.mk_plan.specs.Advance.{IsAdvance, IsComing, IsOuter, bounded, unbounded}
use Rattle.mk_plan.specs.Orderly.{IsNext, IsOrderlyFrom}
use Rattle.mk_plan_same.specs.Parts.{IsFirstOther}
use Rattle.mosaikrun_blame.specs.inner.Pairs.{IsWholeOf}

-- the plan with another limit
abbrev limited : Plan → ℕ → Plan
limited P n = record { until = P.until; loops = P.loops; entries = n; sims = P.sims; models = P.models; entities = P.entities; conns = P.conns; asyncs = P.asyncs }

-- plans whose parts are the same are one but for the limit
is_limited : (P Q : Plan) → IsFirstOther P Q None → Q ≡ limited P Q.entries
is_limited P Q same =
    let before = same.0 in
    λ i. record { until = sym before.0.0 i; loops = sym before.0.1 i; entries = Q.entries; sims = sym before.1 i; models = sym before.2 i; entities = sym before.3 i; conns = sym before.4 i; asyncs = sym same.1 i }

module _ (P : Plan) (n : ℕ) where
  walk_to : (starts : ℕ → Option Tier) (Z : ℕ → Type 0) (i : ℕ) (y : Tier) → Reach (limited P n) starts Z i y → Reach P starts Z i y
  walk_to starts Z i y (from_start _ _ out is) = from_start i y out is
  walk_to starts Z i z (along j v _ y _ walk edge out is) = along j v i y z (walk_to starts Z j y walk) edge out is

  walk_from : (starts : ℕ → Option Tier) (Z : ℕ → Type 0) (i : ℕ) (y : Tier) → Reach P starts Z i y → Reach (limited P n) starts Z i y
  walk_from starts Z i y (from_start _ _ out is) = from_start i y out is
  walk_from starts Z i z (along j v _ y _ walk edge out is) = along j v i y z (walk_from starts Z j y walk) edge out is

  ready_to : (V : View) (s : ℕ) (x : Tier) → IsReady (limited P n) V s x → IsReady P V s x
  ready_to V s x r = record { closed = r.closed; at_pending = r.at_pending; clear = λ j v y l w. r.clear j v y l (walk_from (start P V) nobody j y w) }

  ready_from : (V : View) (s : ℕ) (x : Tier) → IsReady P V s x → IsReady (limited P n) V s x
  ready_from V s x r = record { closed = r.closed; at_pending = r.at_pending; clear = λ j v y l w. r.clear j v y l (walk_to (start P V) nobody j y w) }

  outer_to : (V : View) (s : ℕ) (d : Tier) → IsOuter (limited P n) (start P V) s d → IsOuter P (start P V) s d
  outer_to V s d o = record { from = o.from; via = o.via; at = o.at; edge = o.edge; walk = walk_to (start P V) (λ i. i ≡ s) o.from o.at o.walk; is = o.is }

  outer_from : (V : View) (s : ℕ) (d : Tier) → IsOuter P (start P V) s d → IsOuter (limited P n) (start P V) s d
  outer_from V s d o = record { from = o.from; via = o.via; at = o.at; edge = o.edge; walk = walk_from (start P V) (λ i. i ≡ s) o.from o.at o.walk; is = o.is }

  coming_to : (V : View) (s : ℕ) (x d : Tier) → IsComing (limited P n) V s x d → IsComing P V s x d
  coming_to V s x d (inl known) = inl known
  coming_to V s x d (inr o) = inr (outer_to V s d o)

  coming_from : (V : View) (s : ℕ) (x d : Tier) → IsComing P V s x d → IsComing (limited P n) V s x d
  coming_from V s x d (inl known) = inl known
  coming_from V s x d (inr o) = inr (outer_from V s d o)

  advance_to : (V : View) (s : ℕ) (x : Tier) (m : ℤ) → IsAdvance (limited P n) V s x m → IsAdvance P V s x m
  advance_to V s x m (bounded d _ coming least is) = bounded d m (coming_to V s x d coming) (λ e c. least e (coming_from V s x e c)) is
  advance_to V s x m (unbounded _ none is) = unbounded m (λ d c. none d (coming_from V s x d c)) is

  next_to : (V : View) (o : Option Owed) (e : Entry) → IsNext IsReady IsAdvance (limited P n) V o e → IsNext IsReady IsAdvance P V o e
  next_to V (Some o) e next = next
  next_to V None (Got s m) next = next
  next_to V None (Sent s (Step x ins advance)) next = ((ready_to V s.0 x next.0.0, λ i y low r. next.0.1 i y low (ready_from V i y r)), next.1, advance_to V s.0 x advance next.2)
  next_to V None (Sent s (GetData wants)) next = next
  next_to V None (Sent s (Answer id content)) next = next
  next_to V None (Sent s (Refuse id reason)) next = next

  orderly_to : (V : View) (J : List Entry) → IsOrderlyFrom IsReady IsAdvance (limited P n) V J → IsOrderlyFrom IsReady IsAdvance P V J
  orderly_to V [] orderly = tt
  orderly_to V (e ∷ es) orderly = ((orderly.0.0, next_to V V.owed e orderly.0.1), orderly_to (note P V e) es orderly.1)

  whole_to : (J : List Entry) → IsWholeOf (limited P n) J → IsWholeOf P J
  whole_to J whole = record {
    orderly = (orderly_to empty_view J whole.orderly.0, inl whole.paid);
    paid = whole.paid;
    finished = λ i low. let f = whole.finished i low in record { sent = f.sent; used = f.used; ended = f.ended };
  }

-- what holds of a journal of one of two such plans holds of it as one of the other
pub whole_of_same : (P Q : Plan) (K : List Entry) → IsFirstOther P Q None → IsWholeOf Q K → IsWholeOf P K
whole_of_same P Q K same whole = whole_to P Q.entries K (subst (λ (X : Plan). IsWholeOf X K) (is_limited P Q same) whole)
