-- The laws that the theory takes of a plan's parts.
use Rattle.std.specs.Prelude.{◌≡◌, ℕ, ◌<◌, Bool, true, Some, List, ◌++◌, ◌⊎◌}
use Rattle.mk_order_any.specs.Parts.{Parts, In, Every, Rising, le, lt, Prior, Late, Family, act, fresh}

pub record Laws (P : Parts) : Type 1 where
  -- time is totally ordered, and a delay keeps the order
  pub le_trans : (x y z : P.Tier) → le P x y → le P y z → le P x z
  pub le_total : (x y : P.Tier) → lt P x y → le P x y
  pub le_antisym : (x y : P.Tier) → le P x y → le P y x → x ≡ y
  pub after_mono : (x y : P.Tier) (v : P.Via) → le P x y → le P (P.after x v) (P.after y v)
  -- a triggering connection is waited for, and leads to a later visit
  pub edge_link : (j : ℕ) (v : P.Via) (i : ℕ) → P.Edge j v i → P.Link j v i
  pub link_rises : (j : ℕ) (v : P.Via) (i : ℕ) (y : P.Tier) → P.Link j v i
      → Prior P (y, j) (P.after y v, i)
  -- visits are sorted
  pub visits_rise : Rising (Prior P) P.visits
  -- an act's parts are those of which it was made
  pub at_mk : (x : P.Tier) (ms : List P.Message) (e : Bool) (l : List P.Said)
      → P.at (P.mk x ms e l) ≡ x
  pub msgs_mk : (x : P.Tier) (ms : List P.Message) (e : Bool) (l : List P.Said)
      → P.msgs (P.mk x ms e l) ≡ ms
  pub ended_mk : (x : P.Tier) (ms : List P.Message) (e : Bool) (l : List P.Said)
      → P.ended (P.mk x ms e l) ≡ e
  pub talk_mk : (x : P.Tier) (ms : List P.Message) (e : Bool) (l : List P.Said)
      → P.talk (P.mk x ms e l) ≡ l
  -- the acts that sequential execution makes are right
  pub Right : P.Act → Type 0
  pub act_right : (A : Family P) (s : ℕ) (x : P.Tier) (K : List P.Act) (r : List P.Message)
      → In (x, s) P.visits → Right (act P A s x K r)
  -- why a simulator is due: from the start, by a next time of an act of its own, by an output over
  -- a triggering connection
  pub Initial : ℕ → P.Tier → Type 0
  pub Again : ℕ → P.Act → P.Tier → Type 0
  pub Calls : ℕ → P.Via → ℕ → P.Act → P.Tier → Type 0
  pub due_why : (A : Family P) (s : ℕ) (x : P.Tier) → P.due A s x ≡ true →
      Initial s x ⊎ (((a : P.Act) × In a (A s) × Again s a x)
      ⊎ ((j : ℕ) × (v : P.Via) × (a : P.Act) × P.Edge j v s × In a (A j) × Calls j v s a x))
  pub due_initial : (A : Family P) (s : ℕ) (x : P.Tier) → Initial s x → P.due A s x ≡ true
  pub due_again : (A : Family P) (s : ℕ) (x : P.Tier) (a : P.Act) → In a (A s) → Again s a x
      → P.due A s x ≡ true
  pub due_called : (A : Family P) (s : ℕ) (x : P.Tier) (j : ℕ) (v : P.Via) (a : P.Act)
      → P.Edge j v s → In a (A j) → Calls j v s a x → P.due A s x ≡ true
  pub again_later : (s : ℕ) (a : P.Act) (x : P.Tier) → Right a → Again s a x → lt P (P.at a) x
  pub calls_later : (j : ℕ) (v : P.Via) (s : ℕ) (a : P.Act) (x : P.Tier) → P.Edge j v s
      → Calls j v s a x → le P (P.after (P.at a) v) x
  pub calls_ended : (j : ℕ) (v : P.Via) (s : ℕ) (a : P.Act) (x : P.Tier) → Calls j v s a x
      → P.ended a ≡ true
  -- only the simulators below the count are due
  pub due_below : (A : Family P) (s : ℕ) (x : P.Tier) → P.due A s x ≡ true → s < P.count
  -- a time at which somebody is due over right acts is visited
  pub due_visited : (A : Family P) (s : ℕ) (x : P.Tier) → ((i : ℕ) → Every Right (A i))
      → P.due A s x ≡ true → In (x, s) P.visits
  -- the pending time is the least due time after the last act
  pub pending_due : (A : Family P) (s : ℕ) (x : P.Tier) → P.pending A s ≡ Some x
      → P.due A s x ≡ true
  pub pending_fresh : (A : Family P) (s : ℕ) (x : P.Tier) → P.pending A s ≡ Some x
      → fresh P (A s) x ≡ true
  pub pending_least : (A : Family P) (s : ℕ) (y : P.Tier) → P.due A s y ≡ true
      → fresh P (A s) y ≡ true → (x : P.Tier) × (P.pending A s ≡ Some x) × le P x y
  -- acts that are late change neither a Step nor an answer
  pub step_same : (A U : Family P) (s : ℕ) (x : P.Tier) (K : List P.Act)
      → ((i : ℕ) → Every (λ u. Late P s x i (P.at u)) (U i)) →
      P.step (λ i. A i ++ U i) s x K ≡ P.step A s x K
  pub answer_same : (A U : Family P) (s : ℕ) (x : P.Tier) (o : P.Place) (m : P.Message)
      → ((i : ℕ) → Every (λ u. Late P s x i (P.at u)) (U i)) →
      P.answer (λ i. A i ++ U i) s x o m ≡ P.answer A s x o m
