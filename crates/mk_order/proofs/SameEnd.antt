-- A replay comes to one end: of two eager journals over the same messages that have come to an end,
-- each is the other.
use Rattle.std.proofs.Common.{◌≡◌, ℕ, ◌≤◌, ◌+◌, ℤ, List, [], ◌∷◌, ◌++◌, length, Option, Some, None, refl, sym, ap, ◌∙◌, subst, ◌⊎◌, inl, inr, arith, append_assoc, length-append}
use Rattle.mk_base.specs.declared.tier.Tier.{Tier}
use Rattle.mk_base.specs.Lists.{BeginsWith}
use Rattle.mk_base.proofs.Lists.{none_some, append_nil, filter_map_append}
use Rattle.mk_plan.specs.declared.Plan.{Plan}
use Rattle.mk_plan.specs.declared.Item.TheVariants.{Step, GetData, Answer, Refuse}
use Rattle.mk_plan.specs.declared.Entry.{Entry}
use Rattle.mk_plan.specs.declared.Entry.TheVariants.{Sent, Got}
use Rattle.mk_plan.specs.Journals.{View, Owed, Fault, view, Arrival, arrival_of, arrivals}
use Rattle.mk_plan.specs.Ready.{IsReady, IsDone}
use Rattle.mk_plan.specs.Advance.{IsAdvance}
use Rattle.mk_plan.specs.Orderly.{IsNext, IsAllowed, IsOrderlyFrom, IsOrderlySoFar, IsEagerBy}
use Rattle.mk_order.proofs.Reasons.{pending_below}
use Rattle.mk_order.proofs.Pushing.{orderly_front}
use Rattle.mk_order.proofs.EagerJournals.{eager_fixed, advance_once}

-- ---- beginnings of one list

module _ {X : Type 0} where
  -- of two beginnings of one list one begins with the other
  pub beginnings : (A xs ys : List X) → BeginsWith A xs → BeginsWith A ys → BeginsWith ys xs ⊎ BeginsWith xs ys
  beginnings A [] ys a b = inl (ys, refl)
  beginnings A (x ∷ xs) [] a b = inr (x ∷ xs, refl)
  beginnings [] (x ∷ xs) (y ∷ ys) a b = cc
  beginnings (z ∷ A) (x ∷ xs) (y ∷ ys) a b =
      let same : x ≡ y = cc in
      let here : A ≡ xs ++ a.0 = cc in
      let there : A ≡ ys ++ b.0 = cc in
      elim (beginnings A xs ys (a.0, here) (b.0, there)) [
        | inl p ↦ inl (p.0, ap (λ (w : X). w ∷ ys) (sym same) ∙ ap (λ (l : List X). x ∷ l) p.1)
        | inr p ↦ inr (p.0, ap (λ (w : X). w ∷ xs) same ∙ ap (λ (l : List X). y ∷ l) p.1)
      ]

  -- nothing is left behind what has all
  pub all_given : (A xs : List X) (x : X) (more : List X) → BeginsWith A (xs ++ x ∷ more) → xs ≡ A → ⊥
  all_given A xs x more b e =
      let longer : length A ≡ length xs + (length (x ∷ more ++ b.0)) = ap length b.1 ∙ ap length (append_assoc xs (x ∷ more) b.0) ∙ length-append xs (x ∷ more ++ b.0) in
      let same : length xs ≡ length A = ap length e in
      omega (arith, longer, same)

module _ (Ready : Plan → View → ℕ → Tier → Type 0) (Advance : Plan → View → ℕ → Tier → ℤ → Type 0) (P : Plan) where
  -- where nothing is owed and nobody is ready, nothing may be sent
  pub nothing_sent : (V : View) (e : Entry) → V.owed ≡ None → ((i : ℕ) (x : Tier) → Ready P V i x → ⊥) → arrival_of e ≡ None → IsAllowed Ready Advance P V e → ⊥
  nothing_sent V e paid nobody sent allowed = go e sent (subst (λ (o : Option Owed). IsNext Ready Advance P V o e) paid allowed.1)
    where
      go : (e : Entry) → arrival_of e ≡ None → IsNext Ready Advance P V None e → ⊥
      go (Got s m) h next = none_some (sym h)
      go (Sent s (Step x ins advance)) h next = nobody s.0 x next.0.0
      go (Sent s (GetData wants)) h next = next
      go (Sent s (Answer id content)) h next = next
      go (Sent s (Refuse id reason)) h next = next

  -- after a fault nothing is allowed
  pub nothing_after : (V : View) (e : Entry) (f : Fault) → V.fault ≡ Some f → IsAllowed Ready Advance P V e → ⊥
  nothing_after V e f fault allowed = none_some (sym allowed.0 ∙ fault)

  -- a replay of the messages A has come to its end: by a fault, at the limit of entries, or where
  -- all came and there is nothing to send
  pub data IsAtEnd (A : List Arrival) (J : List Entry) : Type 0 where
    faulty : (f : Fault) → (view P J).fault ≡ Some f → IsAtEnd A J
    full : length J ≡ P.entries → IsAtEnd A J
    quiet : arrivals J ≡ A → (view P J).owed ≡ None → ((i : ℕ) (x : Tier) → Ready P (view P J) i x → ⊥) → IsAtEnd A J

  -- no orderly journal within the limit, whose messages are among A, goes on from there
  pub ends_here : (A : List Arrival) (J more : List Entry) → IsOrderlyFrom Ready Advance P (view P J) more → BeginsWith A (arrivals (J ++ more)) → length (J ++ more) ≤ P.entries → IsAtEnd A J → more ≡ []
  ends_here A J [] orderly given within end = refl
  ends_here A J (e ∷ more) orderly given within (faulty f is) = absurd (nothing_after (view P J) e f is orderly.0)
  ends_here A J (e ∷ more) orderly given within (full is) = absurd (let long : length (J ++ e ∷ more) ≡ length J + length (e ∷ more) = length-append J (e ∷ more) in omega (arith, long, is, within))
  ends_here A J (e ∷ more) orderly given within (quiet all paid nobody) = absurd (go e refl)
    where
      go : (f : Entry) → f ≡ e → ⊥
      go (Sent s item) same = nothing_sent (view P J) e paid nobody (ap arrival_of (sym same)) orderly.0
      go (Got s m) same =
          let split : arrivals (J ++ e ∷ more) ≡ arrivals J ++ (let a : Arrival = record { sim = s.0; message = m } in a) ∷ arrivals more = ap (λ (f : Entry). arrivals (J ++ f ∷ more)) (sym same) ∙ filter_map_append arrival_of J (Got s m ∷ more) in
          all_given A (arrivals J) (record { sim = s.0; message = m }) (arrivals more) (subst (λ (l : List Arrival). BeginsWith A l) split given) all

  -- an eager journal to which all messages came is at its end where nobody is ready
  pub waits_is_end : (A : List Arrival) (J : List Entry) → IsEagerBy Ready Advance P J → arrivals J ≡ A → ((i : ℕ) (x : Tier) → Ready P (view P J) i x → ⊥) → IsAtEnd A J
  waits_is_end A J eager given nobody = elim eager.0.1 [ inl paid ↦ quiet given paid nobody | inr long ↦ full long ]

  module _ (truly : (V : View) (s : ℕ) (x : Tier) → Ready P V s x → IsReady P V s x) (once : (V : View) (s : ℕ) (x : Tier) (m n : ℤ) → Advance P V s x m → Advance P V s x n → m ≡ n) where
    -- the journal of a replay that has come to its end begins with each other one of these messages
    pub end_is_longest : (A : List Arrival) (J K : List Entry) → IsEagerBy Ready Advance P J → IsEagerBy Ready Advance P K → BeginsWith A (arrivals J) → BeginsWith A (arrivals K) → length K ≤ P.entries → IsAtEnd A J → BeginsWith J K
    end_is_longest A J K a b given_a given_b within end = elim (eager_fixed Ready Advance P truly once J K a b (beginnings A (arrivals J) (arrivals K) given_a given_b)) [
      | inl p ↦
          let none : p.0 ≡ [] = ends_here A J p.0 (orderly_front Ready Advance P J p.0 (subst (λ (l : List Entry). IsOrderlySoFar Ready Advance P l) p.1 b.0.0)).1
          (subst (λ (l : List Entry). BeginsWith A (arrivals l)) p.1 given_b) (subst (λ (l : List Entry). length l ≤ P.entries) p.1 within) end in
          ([], sym (append_nil J) ∙ ap (λ (l : List Entry). J ++ l) (sym none) ∙ sym p.1 ∙ sym (append_nil K))
      | inr p ↦ p
    ]

    -- and is the same as another one that has
    pub end_is_one : (A : List Arrival) (J K : List Entry) → IsEagerBy Ready Advance P J → IsEagerBy Ready Advance P K → BeginsWith A (arrivals J) → BeginsWith A (arrivals K) → length J ≤ P.entries → length K ≤ P.entries → IsAtEnd A J → IsAtEnd A K → J ≡ K
    end_is_one A J K a b given_a given_b within_a within_b end_a end_b =
        let p = end_is_longest A J K a b given_a given_b within_b end_a in
        let none : p.0 ≡ [] = ends_here A K p.0 (orderly_front Ready Advance P K p.0 (subst (λ (l : List Entry). IsOrderlySoFar Ready Advance P l) p.1 a.0.0)).1
        (subst (λ (l : List Entry). BeginsWith A (arrivals l)) p.1 given_a) (subst (λ (l : List Entry). length l ≤ P.entries) p.1 within_a) end_b in
        p.1 ∙ ap (λ (l : List Entry). K ++ l) none ∙ append_nil K

-- with many requests outstanding
pub replay_is_longest : (P : Plan) (A : List Arrival) (J K : List Entry) → IsEagerBy IsReady IsAdvance P J → IsEagerBy IsReady IsAdvance P K → BeginsWith A (arrivals J) → BeginsWith A (arrivals K) → length K ≤ P.entries → IsAtEnd IsReady IsAdvance P A J → BeginsWith J K
replay_is_longest P = end_is_longest IsReady IsAdvance P (λ V s x r. r) (advance_once P)

pub replay_is_one : (P : Plan) (A : List Arrival) (J K : List Entry) → IsEagerBy IsReady IsAdvance P J → IsEagerBy IsReady IsAdvance P K → BeginsWith A (arrivals J) → BeginsWith A (arrivals K) → length J ≤ P.entries → length K ≤ P.entries
    → IsAtEnd IsReady IsAdvance P A J → IsAtEnd IsReady IsAdvance P A K → J ≡ K
replay_is_one P = end_is_one IsReady IsAdvance P (λ V s x r. r) (advance_once P)

-- where nothing is left to do, nobody is ready
pub done_is_quiet : (P : Plan) (V : View) → IsDone P V → (i : ℕ) (x : Tier) → IsReady P V i x → ⊥
done_is_quiet P V done i x ready = none_some (sym (done.none_pending i (pending_below P V.acts i x ready.at_pending)) ∙ ready.at_pending)

-- so a replay in which all messages came and nothing is left to do, or only waits for a message, is
-- at its end
pub done_is_end : (P : Plan) (A : List Arrival) (J : List Entry) → IsEagerBy IsReady IsAdvance P J → arrivals J ≡ A → IsDone P (view P J) → IsAtEnd IsReady IsAdvance P A J
done_is_end P A J eager given done = waits_is_end IsReady IsAdvance P A J eager given (done_is_quiet P (view P J) done)
