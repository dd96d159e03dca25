-- An eager journal is fixed by its messages and its length.
use Rattle.std.proofs.Common.{◌≡◌, ℕ, ◌<◌, ℤ, pos, ◌-ℤ◌, ◌≤ℤ◌, List, [], ◌∷◌, ◌++◌, Option, Some, None, refl, sym, ap, ◌∙◌, subst, ◌⊎◌, inl, inr, arith, append_assoc}
use Rattle.std.proofs.lemmas.Int.{ints}
use Rattle.std.specs.Int.{int_min, int_max}
use Rattle.mk_order_any.proofs.Replays.{arrivals_fix_journal, EagerFrom}
use Rattle.mk_base.specs.declared.SimNo.{SimNo}
use Rattle.mk_base.specs.declared.tier.Tier.{Tier}
use Rattle.mk_base.specs.Lists.{BeginsWith}
use Rattle.mk_base.proofs.Lists.{some_same, none_some}
use Rattle.mk_plan.specs.declared.Plan.{Plan}
use Rattle.mk_plan.specs.declared.Input.{Input}
use Rattle.mk_plan.specs.declared.Item.TheVariants.{Step, GetData, Answer, Refuse}
use Rattle.mk_plan.specs.declared.Message.{Message}
use Rattle.mk_plan.specs.declared.Entry.{Entry}
use Rattle.mk_plan.specs.declared.Entry.TheVariants.{Sent, Got}
use Rattle.mk_plan.specs.Journals.{View, Owed, empty_view, note, view, Arrival, arrival_of, arrivals}
use Rattle.mk_plan.specs.Deliveries.{supply}
use Rattle.mk_plan.specs.Inputs.{inputs}
use Rattle.mk_plan.specs.Sequential.{last_time}
use Rattle.mk_plan.specs.Ready.{pending, IsReady}
use Rattle.mk_plan.specs.Advance.{IsAdvance, bounded, unbounded}
use Rattle.mk_plan.specs.Orderly.{IsNext, IsAllowed, IsOrderlyFrom, IsEagerBy, IsFirstReady}
use Rattle.mk_order.proofs.Pushing.{view_push}

-- a Step has one max_advance
pub advance_once : (P : Plan) (V : View) (s : ℕ) (x : Tier) (m n : ℤ) → IsAdvance P V s x m → IsAdvance P V s x n → m ≡ n
advance_once P V s x m n (bounded d _ c l e) (bounded f _ g k h) =
    let a : d.time ≤ℤ f.time = l f g in
    let b : f.time ≤ℤ d.time = k d c in
    let same : d.time ≡ f.time = grind (arith, ints) in
    e ∙ ap (λ (t : ℤ). int_min P.until (int_max x.time (t -ℤ pos 1))) same ∙ sym h
advance_once P V s x m n (bounded d _ c l e) (unbounded _ none h) = absurd (none d c)
advance_once P V s x m n (unbounded _ none e) (bounded f _ g k h) = absurd (none f g)
advance_once P V s x m n (unbounded _ none e) (unbounded _ none' h) = e ∙ sym h

module _ (Ready : Plan → View → ℕ → Tier → Type 0) (Advance : Plan → View → ℕ → Tier → ℤ → Type 0) (P : Plan) (truly : (V : View) (s : ℕ) (x : Tier) → Ready P V s x → IsReady P V s x)
    (once : (V : View) (s : ℕ) (x : Tier) (m n : ℤ) → Advance P V s x m → Advance P V s x n → m ≡ n) where
  Quiet : View → Type 0
  Quiet V = (i : ℕ) (x : Tier) → Ready P V i x → ⊥

  -- one simulator at most is the first that is ready
  pub first_once : (V : View) (s t : ℕ) (x y : Tier) → IsFirstReady Ready Advance P V s x → IsFirstReady Ready Advance P V t y → s ≡ t
  first_once V s t x y a b = elim (compared s t) [ inl low ↦ absurd (b.1 s x low a.0) | inr (inl high) ↦ absurd (a.1 t y high b.0) | inr (inr e) ↦ e ]
    where
      compared : (s t : ℕ) → (s < t) ⊎ ((t < s) ⊎ (s ≡ t))
      compared s t = grind arith

  -- one Step may come next
  one_step : (V : View) (s t : SimNo) (x y : Tier) (ins jns : List Input) (m n : ℤ) → IsNext Ready Advance P V None (Sent s (Step x ins m)) → IsNext Ready Advance P V None (Sent t (Step y jns n)) → Sent s (Step x ins m) ≡ Sent t (Step y jns n)
  one_step V s t x y ins jns m n a b =
      let sims : s.0 ≡ t.0 = first_once V s.0 t.0 x y a.0 b.0 in
      let times : x ≡ y = some_same (sym (truly V s.0 x a.0.0).at_pending ∙ ap (pending P V.acts) sims ∙ (truly V t.0 y b.0.0).at_pending) in
      let same_ins : ins ≡ jns = a.1 ∙ (λ i. inputs P (supply P V.acts) (sims i) (last_time (V.acts (sims i))) (times i)) ∙ sym b.1 in
      let there : Advance P V s.0 x n = subst (λ (i : ℕ). Advance P V i x n) (sym sims) (subst (λ (z : Tier). Advance P V t.0 z n) (sym times) b.2) in
      let same_advance : m ≡ n = once V s.0 x m n a.2 there in
      λ i. Sent (record { 0 = sims i }) (Step (times i) (same_ins i) (same_advance i))

  one_sent : (V : View) (e f : Entry) → IsAllowed Ready Advance P V e → IsAllowed Ready Advance P V f → arrival_of e ≡ None → arrival_of f ≡ None → e ≡ f
  one_sent V e f a b h k = by_owed V.owed a.1 b.1
    where
      alone : (e f : Entry) → arrival_of e ≡ None → arrival_of f ≡ None → IsNext Ready Advance P V None e → IsNext Ready Advance P V None f → e ≡ f
      alone (Got s m) f h k a b = absurd (none_some (sym h))
      alone (Sent s (GetData wants)) f h k a b = absurd a
      alone (Sent s (Answer id content)) f h k a b = absurd a
      alone (Sent s (Refuse id reason)) f h k a b = absurd a
      alone (Sent s (Step x ins m)) (Got t n) h k a b = absurd (none_some (sym k))
      alone (Sent s (Step x ins m)) (Sent t (GetData wants)) h k a b = absurd b
      alone (Sent s (Step x ins m)) (Sent t (Answer id content)) h k a b = absurd b
      alone (Sent s (Step x ins m)) (Sent t (Refuse id reason)) h k a b = absurd b
      alone (Sent s (Step x ins m)) (Sent t (Step y jns n)) h k a b = one_step V s t x y ins jns m n a b

      by_owed : (o : Option Owed) → IsNext Ready Advance P V o e → IsNext Ready Advance P V o f → e ≡ f
      by_owed None a b = alone e f h k a b
      by_owed (Some o) a b = a ∙ sym b

  one_got : (e f : Entry) (g : Arrival) → arrival_of e ≡ Some g → arrival_of f ≡ Some g → e ≡ f
  one_got (Sent s item) f g h k = absurd (none_some h)
  one_got (Got s m) (Sent t item) g h k = absurd (none_some k)
  one_got (Got s m) (Got t n) g h k = let same = some_same (h ∙ sym k) in λ i. Got (record { 0 = (same i).sim }) (same i).message

  no_sent : (V : View) (e f : Entry) (g : Arrival) → IsAllowed Ready Advance P V e → IsAllowed Ready Advance P V f → arrival_of e ≡ None → arrival_of f ≡ Some g → Quiet V → ⊥
  unfolding Quiet
  no_sent V e f g a b h k quiet = by_owed V.owed e f h k a.1 b.1
    where
      by_owed : (o : Option Owed) (e f : Entry) → arrival_of e ≡ None → arrival_of f ≡ Some g → IsNext Ready Advance P V o e → IsNext Ready Advance P V o f → ⊥
      by_owed (Some o) e f h k a b = none_some (ap arrival_of (sym b) ∙ k)
      by_owed None (Got s m) f h k a b = none_some (sym h)
      by_owed None (Sent s (GetData wants)) f h k a b = a
      by_owed None (Sent s (Answer id content)) f h k a b = a
      by_owed None (Sent s (Refuse id reason)) f h k a b = a
      by_owed None (Sent s (Step x ins m)) f h k a b = quiet s.0 x a.0.0

  -- from each point on, a message comes only where nobody is ready
  eager_from : (H J : List Entry) → IsOrderlyFrom Ready Advance P (view P H) J
      → ((G : List Entry) (s : SimNo) (m : Message) (more : List Entry) → H ++ J ≡ G ++ Got s m ∷ more → (i : ℕ) (x : Tier) → Ready P (view P G) i x → ⊥)
      → EagerFrom View Entry Arrival (note P) (IsAllowed Ready Advance P) arrival_of Quiet one_sent one_got no_sent (view P H) J
  unfolding Quiet
  eager_from H [] orderly quiet = tt
  eager_from H (e ∷ J) orderly quiet = (
    orderly.0,
    (λ g is. here e refl g is),
    subst (λ (V : View). EagerFrom View Entry Arrival (note P) (IsAllowed Ready Advance P) arrival_of Quiet one_sent one_got no_sent V J) (view_push P H e)
        (eager_from (H ++ e ∷ []) J (subst (λ (V : View). IsOrderlyFrom Ready Advance P V J) (sym (view_push P H e)) orderly.1) (λ G s m more is. quiet G s m more (sym (append_assoc H (e ∷ []) J) ∙ is))),
  )
    where
      here : (f : Entry) → f ≡ e → (g : Arrival) → arrival_of f ≡ Some g → (i : ℕ) (x : Tier) → Ready P (view P H) i x → ⊥
      here (Sent s item) same g is = absurd (none_some is)
      here (Got s m) same g is = quiet H s m J (ap (λ (f : Entry). H ++ f ∷ J) (sym same))

  -- of two eager journals whose messages agree as far as both go, one begins with the other
  pub eager_fixed : (J K : List Entry) → IsEagerBy Ready Advance P J → IsEagerBy Ready Advance P K → BeginsWith (arrivals K) (arrivals J) ⊎ BeginsWith (arrivals J) (arrivals K) → BeginsWith K J ⊎ BeginsWith J K
  unfolding Quiet
  eager_fixed J K a b same = arrivals_fix_journal View Entry Arrival (note P) (IsAllowed Ready Advance P) arrival_of Quiet one_sent one_got no_sent empty_view J K (eager_from [] J a.0.0 a.1) (eager_from [] K b.0.0 b.1) same
