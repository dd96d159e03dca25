-- The laws of the walk through a journal.
use Rattle.std.specs.Prelude.{◌≡◌, ℕ, ◌+◌, ◌<◌, ◌≤◌, ◌⊎◌, true, List, [], ◌∷◌, ◌++◌, length, take, drop, None, Some}
use Rattle.mk_base.specs.declared.SimNo.{SimNo}
use Rattle.mk_base.specs.Lists.{BeginsWith}
use Rattle.mk_plan.specs.declared.Plan.{Plan}
use Rattle.mk_plan.specs.declared.Item.{Item}
use Rattle.mk_plan.specs.declared.Message.{Message}
use Rattle.mk_plan.specs.declared.Entry.{Entry}
use Rattle.mk_plan.specs.declared.Entry.TheVariants.{Sent, Got}
use Rattle.mk_plan.specs.Journals.{sent, got, view}
use Rattle.mk_plan.specs.Ready.{IsReady}
use Rattle.mk_plan.specs.Advance.{IsAdvance}
use Rattle.mk_plan.specs.Orderly.{IsOrderlySoFar}
use Rattle.mk_resume_walk.specs.Talks.{free_items}
use Rattle.mk_resume_walk.specs.Walks.{has_none, IsFirstOwn, IsGoneTo, IsNextAt}
use Rattle.mk_resume_walk.specs.Index.{own_count}

-- behind an entry that was looked up, one more of the simulator's entries was gone through
abbrev pub EntriesAreCounted : Type 0
EntriesAreCounted = (J : List Entry) (i from p : ℕ) → IsFirstOwn J i from (Some p)
    → own_count i (take (p + 1) J) ≡ own_count i (take from J) + 1

-- what is free of a journal's items goes on with each message that is sent again, and at last is
-- all; what is sent and got later adds nothing to what was free before
pub record FreeItemsGoOn : Type 0 where
  pub next : (J : List Entry) (i n : ℕ) → n < length (got J i)
      → BeginsWith (free_items J i (n + 1)) (free_items J i n)
  pub all : (J : List Entry) (i n : ℕ) → length (got J i) ≤ n → free_items J i n ≡ sent J i
  pub first : (J K : List Entry) (i n : ℕ) → n < length (got J i)
      → free_items (J ++ K) i n ≡ free_items J i n

-- the walk of simulator i: it begins with nothing sent; by an item this one is sent; at a message it
-- waits, and what was sent is what is free; where that message was sent again it goes on; at the end
-- all messages were sent again, and all items were sent
pub record WalksGoOn : Type 0 where
  pub begins : (J : List Entry) (i : ℕ) → (h : IsGoneTo J i 0 0) × (sent h.gone i ≡ [])
  pub sends : (J : List Entry) (i n from : ℕ) (g : IsGoneTo J i n from)
      (between later : List Entry) (s : SimNo) (item : Item)
      → drop from J ≡ between ++ Sent s item ∷ later → has_none i between ≡ true → s.0 ≡ i
      → (h : IsGoneTo J i n (from + length between + 1))
      × (sent h.gone i ≡ sent g.gone i ++ item ∷ [])
  pub waits : (J : List Entry) (i n from : ℕ) (g : IsGoneTo J i n from)
      (between later : List Entry) (s : SimNo) (m : Message)
      → drop from J ≡ between ++ Got s m ∷ later → has_none i between ≡ true → s.0 ≡ i
      → IsNextAt J i n (Some (from + length between)) × (free_items J i n ≡ sent g.gone i)
  pub goes_on : (J : List Entry) (i n p : ℕ) → IsNextAt J i n (Some p) → n < length (got J i)
      → (h : IsGoneTo J i (n + 1) (p + 1)) × (sent h.gone i ≡ free_items J i n)
  pub ends : (J : List Entry) (i n from : ℕ) (g : IsGoneTo J i n from)
      → has_none i (drop from J) ≡ true
      → IsNextAt J i n None × (free_items J i n ≡ sent g.gone i)

-- in an orderly journal without a fault each simulator was sent as many items as messages came from
-- it, or one more; so its items and its messages alternate
abbrev pub TurnsAlternate : Type 0
TurnsAlternate = (P : Plan) (J : List Entry) → IsOrderlySoFar IsReady IsAdvance P J
    → (view P J).fault ≡ None → (i : ℕ)
    → (length (sent J i) ≡ length (got J i)) ⊎ (length (sent J i) ≡ length (got J i) + 1)

-- so what is free to a simulator that has sent n messages again are n items or one more; one more,
-- where it has another message to send again
pub record FreeItemsAlternate : Type 0 where
  pub at_most : (P : Plan) (J : List Entry) → IsOrderlySoFar IsReady IsAdvance P J
      → (view P J).fault ≡ None → (i n : ℕ) → n ≤ length (got J i)
      → (length (free_items J i n) ≡ n) ⊎ (length (free_items J i n) ≡ n + 1)
  pub one_more : (P : Plan) (J : List Entry) → IsOrderlySoFar IsReady IsAdvance P J
      → (view P J).fault ≡ None → (i n : ℕ) → n < length (got J i)
      → length (free_items J i n) ≡ n + 1
