-- The replays of a record in one order that have come to an end are one, and end alike.
use Rattle.std.proofs.Common.{◌≡◌, ℕ, zero, suc, ◌<◌, ◌≤◌, List, [], ◌∷◌, ◌++◌, length, take, drop, Option, Some, None, refl, sym, ap, ◌∙◌, subst, ◌⊎◌, inl, inr, arith, append_assoc}
use Rattle.std.specs.Prelude.{IsSome}
use Rattle.std.proofs.lemmas.List.{take-append-drop}
use Rattle.std.proofs.Math.Seq.{take-length}
use Rattle.mk_base.specs.declared.SimNo.{SimNo}
use Rattle.mk_base.specs.declared.tier.Tier.{Tier}
use Rattle.mk_base.specs.Lists.{BeginsWith}
use Rattle.mk_base.proofs.Lists.{append_nil, filter_map_append, some_same}
use Rattle.mk_plan.specs.declared.Plan.{Plan}
use Rattle.mk_plan.specs.declared.Message.{Message}
use Rattle.mk_plan.specs.declared.Entry.{Entry}
use Rattle.mk_plan.specs.declared.Entry.TheVariants.{Sent, Got}
use Rattle.mk_plan.specs.Journals.{Arrival, Owed, View, arrival_of, arrivals, view}
use Rattle.mk_plan.specs.Ready.{IsReady}
use Rattle.mk_plan.specs.Advance.{IsAdvance}
use Rattle.mk_plan.specs.Orderly.{IsNext, IsEager, IsOrderlySoFar}
use Rattle.mk_order.proofs.EagerJournals.{advance_once, eager_fixed}
use Rattle.mk_order.proofs.Pushing.{orderly_front}
use Rattle.mk_order.proofs.SameEnd.{IsAtEnd, faulty, full, quiet, ends_here, nothing_sent}
use Rattle.mk_record_replay.specs.declared.replaying.ReplayEnd.{ReplayEnd}
use Rattle.mk_record_replay.specs.declared.replaying.ReplayEnd.TheVariants.{Done, Core, Short, Other}
use Rattle.mk_record_replay.specs.Replays.{EndsBy, SomeUngiven, messages_from}
use Rattle.mk_record_replay.specs.Orders.{IsReplayBy, IsReplayInOrder, SameMessages, next_sim}
use Rattle.mk_sched.specs.Answers.{SomeReady}
use Rattle.mk_record_read.specs.declared.saved.Asked.{Asked}
use Rattle.mk_record_replay.proofs.OneEnd.{at_end, one_end, one_record}
use Rattle.mk_record_replay.proofs.Waiting.{messages_append, front_of, one_here}
use Rattle.mk_base.proofs.Counts.{below_or_not}
use Rattle.mk_base.proofs.Items.{same_behind, nothing_behind}

-- ---- a journal before its message at a place

record SplitAt (J : List Entry) (n : ℕ) : Type 0 where
  before : List Entry
  sim : SimNo
  message : Message
  more : List Entry
  is : J ≡ before ++ Got sim message ∷ more
  first : arrivals before ≡ take n (arrivals J)
  next : take (suc n) (arrivals J) ≡ take n (arrivals J) ++ record { sim = sim.0; message = message } ∷ []

split_at : (J : List Entry) (n : ℕ) → n < length (arrivals J) → SplitAt J n
split_at [] n h = absurd (omega (arith, h))
split_at (Sent s item ∷ J) n h = let t = split_at J n h in record { before = Sent s item ∷ t.before; sim = t.sim; message = t.message; more = t.more; is = ap (λ (l : List Entry). Sent s item ∷ l) t.is; first = t.first; next = t.next }
split_at (Got s m ∷ J) zero h = record { before = []; sim = s; message = m; more = J; is = refl; first = refl; next = refl }
split_at (Got s m ∷ J) (suc n) h = let t = split_at J n (omega (arith, h)) in record {
  before = Got s m ∷ t.before;
  sim = t.sim;
  message = t.message;
  more = t.more;
  is = ap (λ (l : List Entry). Got s m ∷ l) t.is;
  first = ap (λ (l : List Arrival). record { sim = s.0; message = m } ∷ l) t.first;
  next = ap (λ (l : List Arrival). record { sim = s.0; message = m } ∷ l) t.next;
}

-- it is eager, nothing is owed, and nobody is ready
record IsBefore (P : Plan) (G : List Entry) : Type 0 where
  eager : IsEager P G
  paid : (view P G).owed ≡ None
  nobody : (i : ℕ) (x : Tier) → IsReady P (view P G) i x → ⊥

paid_before : (P : Plan) (V : View) (o : Option Owed) (s : SimNo) (m : Message) → IsNext IsReady IsAdvance P V o (Got s m) → o ≡ None
paid_before P V None s m h = refl
paid_before P V (Some o) s m h = absurd (not_sent h)
  where
    not_sent : Got s m ≡ Sent (record { 0 = o.sim }) o.item → ⊥
    not_sent e = cc

before_message : (P : Plan) (J G : List Entry) (s : SimNo) (m : Message) (more : List Entry) → IsEager P J → J ≡ G ++ Got s m ∷ more → IsBefore P G
before_message P J G s m more eager is =
    let front = orderly_front IsReady IsAdvance P G (Got s m ∷ more) (subst (λ (l : List Entry). IsOrderlySoFar IsReady IsAdvance P l) is eager.0.0) in
    let paid = paid_before P (view P G) (view P G).owed s m front.1.0.1 in record {
      eager = ((front.0, inl paid), λ H t n rest e. eager.1 H t n (rest ++ Got s m ∷ more) (is ∙ ap (λ (l : List Entry). l ++ Got s m ∷ more) e ∙ append_assoc H (Got t n ∷ rest) (Got s m ∷ more)));
      paid = paid;
      nobody = eager.1 G s m more is;
    }

nothing_more : (P : Plan) (G more : List Entry) → IsBefore P G → IsOrderlySoFar IsReady IsAdvance P (G ++ more) → arrivals more ≡ [] → more ≡ []
nothing_more P G [] b orderly none = refl
nothing_more P G (Got s m ∷ more) b orderly none = absurd (some_left none)
  where
    some_left : arrivals (Got s m ∷ more) ≡ [] → ⊥
    some_left q = cc
nothing_more P G (Sent s item ∷ more) b orderly none = absurd (nothing_sent IsReady IsAdvance P (view P G) (Sent s item) b.paid b.nobody refl (orderly_front IsReady IsAdvance P G (Sent s item ∷ more) orderly).1.0)

longer_before : (P : Plan) (G K : List Entry) → IsBefore P G → IsBefore P K → arrivals G ≡ arrivals K → BeginsWith K G → G ≡ K
longer_before P G K b c same longer =
    let none : arrivals longer.0 ≡ [] = nothing_behind (arrivals G) (arrivals longer.0) (same ∙ ap arrivals longer.1 ∙ filter_map_append arrival_of G longer.0) in
    let empty = nothing_more P G longer.0 b (subst (λ (l : List Entry). IsOrderlySoFar IsReady IsAdvance P l) longer.1 c.eager.0.0) none in
    sym (longer.1 ∙ ap (λ (l : List Entry). G ++ l) empty ∙ append_nil G)

same_before : (P : Plan) (G K : List Entry) → IsBefore P G → IsBefore P K → arrivals G ≡ arrivals K → G ≡ K
same_before P G K b c same = elim (eager_fixed IsReady IsAdvance P (λ V s x r. r) (advance_once P) G K b.eager c.eager (inl ([], sym same ∙ sym (append_nil (arrivals G))))) [
  | inl longer ↦ longer_before P G K b c same longer
  | inr longer ↦ sym (longer_before P K G c b (sym same) longer)
]

-- ---- the messages of two replays in one order

module _ (P : Plan) (A : List Arrival) (N : ℕ) where
  -- the message at its place among its simulator's
  message_next : (J : List Entry) (e : ReplayEnd) (r : IsReplayInOrder P A N J e) (G : List Entry) (s : SimNo) (m : Message) (more : List Entry) → J ≡ G ++ Got s m ∷ more
      → (rest : List Message) × (messages_from A s.0 ≡ messages_from (arrivals G) s.0 ++ (m ∷ rest))
  message_next J e r G s m more is =
      let a : Arrival = record { sim = s.0; message = m } in
      let came : arrivals J ≡ arrivals G ++ a ∷ arrivals more = ap arrivals is ∙ filter_map_append arrival_of G (Got s m ∷ more) in
      let whole : r.order ≡ arrivals G ++ a ∷ (arrivals more ++ r.replay.given.0) = r.replay.given.1 ∙ ap (λ (l : List Arrival). l ++ r.replay.given.0) came ∙ append_assoc (arrivals G) (a ∷ arrivals more) r.replay.given.0 in (
        messages_from (arrivals more ++ r.replay.given.0) s.0,
        sym (r.same s.0) ∙ ap (λ (l : List Arrival). messages_from l s.0) whole ∙ messages_append (arrivals G) (a ∷ (arrivals more ++ r.replay.given.0)) s.0
            ∙ ap (λ (l : List Message). messages_from (arrivals G) s.0 ++ l) (front_of a (arrivals more ++ r.replay.given.0) s.0 ∙ ap (λ (l : List Message). l ++ messages_from (arrivals more ++ r.replay.given.0) s.0) (one_here a s.0 refl)),
      )

  module _ (J K : List Entry) (e f : ReplayEnd) (r : IsReplayInOrder P A N J e) (q : IsReplayInOrder P A N K f) where
    at_place : (n : ℕ) → take n (arrivals J) ≡ take n (arrivals K) → n < length (arrivals J) → n < length (arrivals K) → take (suc n) (arrivals J) ≡ take (suc n) (arrivals K)
    at_place n same low lower =
        let s = split_at J n low in
        let t = split_at K n lower in
        let G : List Entry = s.before in
        let H : List Entry = t.before in
        let one : G ≡ H = same_before P G H (before_message P J G s.sim s.message s.more r.replay.eager s.is) (before_message P K H t.sim t.message t.more q.replay.eager t.is) (s.first ∙ same ∙ sym t.first) in
        let sims : s.sim.0 ≡ t.sim.0 = some_same (sym (r.in_order G s.sim s.message s.more s.is) ∙ ap (next_sim P A N) one ∙ q.in_order H t.sim t.message t.more t.is) in
        let m = message_next J e r G s.sim s.message s.more s.is in
        let n' = message_next K f q H t.sim t.message t.more t.is in
        let both : messages_from (arrivals G) s.sim.0 ++ (s.message ∷ m.0) ≡ messages_from (arrivals G) s.sim.0 ++ (t.message ∷ n'.0) =
        sym m.1 ∙ ap (messages_from A) sims ∙ n'.1 ∙ ap (λ (i : ℕ). messages_from (arrivals H) i ++ (t.message ∷ n'.0)) (sym sims) ∙ ap (λ (l : List Entry). messages_from (arrivals l) s.sim.0 ++ (t.message ∷ n'.0)) (sym one) in
        let messages : s.message ≡ t.message = first_same (same_behind (messages_from (arrivals G) s.sim.0) (s.message ∷ m.0) (t.message ∷ n'.0) both) in
        s.next ∙ ap (λ (l : List Arrival). l ++ record { sim = s.sim.0; message = s.message } ∷ []) same
        ∙ ap (λ (a : Arrival). take n (arrivals K) ++ a ∷ []) (λ i. record { sim = sims i; message = messages i }) ∙ sym t.next
      where
        first_same : {x y : Message} {xs ys : List Message} → x ∷ xs ≡ y ∷ ys → x ≡ y
        first_same h = cc

    common : (n : ℕ) → n ≤ length (arrivals J) → n ≤ length (arrivals K) → take n (arrivals J) ≡ take n (arrivals K)
    common zero a b = refl
    common (suc n) a b = at_place n (common n (omega (arith, a)) (omega (arith, b))) (omega (arith, a)) (omega (arith, b))

    comparable : BeginsWith (arrivals K) (arrivals J) ⊎ BeginsWith (arrivals J) (arrivals K)
    comparable = elim (below_or_not (length (arrivals J)) (length (arrivals K))) [
      | inl low ↦ inl (drop (length (arrivals J)) (arrivals K), shorter (arrivals J) (arrivals K) (common (length (arrivals J)) (omega arith) (omega (arith, low))))
      | inr high ↦ inr (drop (length (arrivals K)) (arrivals J), shorter (arrivals K) (arrivals J) (sym (common (length (arrivals K)) high (omega arith))))
    ]
      where
        shorter : (a b : List Arrival) → take (length a) a ≡ take (length a) b → b ≡ a ++ drop (length a) b
        shorter a b same = sym (take-append-drop (length a) b) ∙ ap (λ (l : List Arrival). l ++ drop (length a) b) (sym same ∙ take-length a)

  -- nothing comes after a replay that has come to its end
  nothing_after_end : (J K : List Entry) (e f : ReplayEnd) (r : IsReplayInOrder P A N J e) (q : IsReplayInOrder P A N K f) (more : List Entry) → K ≡ J ++ more → more ≡ []
  nothing_after_end J K e f r q more is = by_end (at_end P r.order J e r.replay r.ends)
    where
      orderly : IsOrderlySoFar IsReady IsAdvance P (J ++ more)
      orderly = subst (λ (l : List Entry). IsOrderlySoFar IsReady IsAdvance P l) is q.replay.eager.0.0

      within : length (J ++ more) ≤ P.entries
      within = subst (λ (l : List Entry). length l ≤ P.entries) is q.replay.within

      whole : BeginsWith (arrivals (J ++ more)) (arrivals (J ++ more))
      whole = ([], sym (append_nil (arrivals (J ++ more))))

      on_quiet : (rest : List Entry) → more ≡ rest → arrivals J ≡ r.order → (view P J).owed ≡ None → ((i : ℕ) (x : Tier) → IsReady P (view P J) i x → ⊥) → rest ≡ []
      on_quiet [] same all paid nobody = refl
      on_quiet (Sent s item ∷ rest) same all paid nobody = absurd (nothing_sent IsReady IsAdvance P (view P J) (Sent s item) paid nobody refl
          (orderly_front IsReady IsAdvance P J (Sent s item ∷ rest) (subst (λ (l : List Entry). IsOrderlySoFar IsReady IsAdvance P (J ++ l)) same orderly)).1.0)
      on_quiet (Got s m ∷ rest) same all paid nobody =
          let there = message_next K f q J s m rest (is ∙ ap (λ (l : List Entry). J ++ l) same) in
          let none : m ∷ there.0 ≡ [] = nothing_behind (messages_from (arrivals J) s.0) (m ∷ there.0) (ap (λ (l : List Arrival). messages_from l s.0) all ∙ r.same s.0 ∙ there.1) in
          absurd (not_none none)
        where
          not_none : {x : Message} {xs : List Message} → x ∷ xs ≡ [] → ⊥
          not_none h = cc

      by_end : IsAtEnd IsReady IsAdvance P r.order J → more ≡ []
      by_end (faulty x there) = ends_here IsReady IsAdvance P (arrivals (J ++ more)) J more (orderly_front IsReady IsAdvance P J more orderly).1 whole within (faulty x there)
      by_end (full there) = ends_here IsReady IsAdvance P (arrivals (J ++ more)) J more (orderly_front IsReady IsAdvance P J more orderly).1 whole within (full there)
      by_end (quiet all paid nobody) = on_quiet more refl all paid nobody

  one_journal : (J K : List Entry) (e f : ReplayEnd) (r : IsReplayInOrder P A N J e) (q : IsReplayInOrder P A N K f) → J ≡ K
  one_journal J K e f r q = elim (eager_fixed IsReady IsAdvance P (λ V s x ready. ready) (advance_once P) J K r.replay.eager q.replay.eager (comparable J K e f r q)) [
    | inl p ↦ sym (p.1 ∙ ap (λ (l : List Entry). J ++ l) (nothing_after_end J K e f r q p.0 p.1) ∙ append_nil J)
    | inr p ↦ p.1 ∙ ap (λ (l : List Entry). K ++ l) (nothing_after_end K J f e q r p.0 p.1) ∙ append_nil K
  ]

  -- ---- their ends

  module _ (J : List Entry) (B C : List Arrival) (same : SameMessages A B) (also : SameMessages A C) where
    -- where all of C came, nothing of B is left
    none_left : (rest : List Arrival) → B ≡ arrivals J ++ rest → arrivals J ≡ C → rest ≡ []
    none_left [] is all = refl
    none_left (a ∷ rest) is all =
        let there : messages_from B a.sim ≡ messages_from (arrivals J) a.sim ++ (a.message ∷ messages_from rest a.sim) =
        ap (λ (l : List Arrival). messages_from l a.sim) is ∙ messages_append (arrivals J) (a ∷ rest) a.sim
        ∙ ap (λ (l : List Message). messages_from (arrivals J) a.sim ++ l) (front_of a rest a.sim ∙ ap (λ (l : List Message). l ++ messages_from rest a.sim) (one_here a a.sim refl)) in
        absurd (not_none (nothing_behind (messages_from (arrivals J) a.sim) (a.message ∷ messages_from rest a.sim) (ap (λ (l : List Arrival). messages_from l a.sim) all ∙ also a.sim ∙ sym (same a.sim) ∙ there)))
      where
        not_none : {x : Message} {xs : List Message} → x ∷ xs ≡ [] → ⊥
        not_none h = cc

    all_of : BeginsWith B (arrivals J) → arrivals J ≡ C → B ≡ C
    all_of given all = given.1 ∙ ap (λ (l : List Arrival). arrivals J ++ l) (none_left given.0 given.1 all) ∙ append_nil (arrivals J) ∙ all

  ends_over : (J : List Entry) (B C : List Arrival) (f : ReplayEnd) → SameMessages A B → SameMessages A C → BeginsWith B (arrivals J) → EndsBy P C J f → EndsBy P B J f
  ends_over J B C Done same also given w = subst (λ (l : List Arrival). EndsBy P l J Done) (sym (all_of J B C same also given w.given)) w
  ends_over J B C (Short n) same also given w = subst (λ (l : List Arrival). EndsBy P l J (Short n)) (sym (all_of J B C same also given w.given)) w
  ends_over J B C (Other n) same also given w = w
  ends_over J B C (Core f) same also given (inl l) = inl l
  ends_over J B C (Core f) same also given (inr t) = inr (record { named = t.named; full = t.full; no_fault = t.no_fault; more = more t.more })
    where
      left : (rest : List Arrival) → B ≡ arrivals J ++ rest → SomeUngiven C J → SomeUngiven B J
      left [] is c = absurd (not_none (none_left J C B also same (c.0 ∷ c.1) c.2 (sym (is ∙ append_nil (arrivals J)))))
        where
          not_none : {x : Arrival} {xs : List Arrival} → x ∷ xs ≡ [] → ⊥
          not_none h = cc
      left (a ∷ rest) is c = (a, rest, is)

      more : IsSome (view P J).owed ⊎ (SomeReady P J ⊎ SomeUngiven C J) → IsSome (view P J).owed ⊎ (SomeReady P J ⊎ SomeUngiven B J)
      more (inl owed) = inl owed
      more (inr (inl ready)) = inr (inl ready)
      more (inr (inr c)) = inr (inr (left given.0 given.1 c))

  pub one_in_order : (J K : List Entry) (e f : ReplayEnd) → IsReplayInOrder P A N J e → IsReplayInOrder P A N K f → (J ≡ K) × (e ≡ f)
  one_in_order J K e f r q =
      let same : J ≡ K = one_journal J K e f r q in
      (same, one_end P r.order J e f r.ends (ends_over J r.order q.order f r.same q.same r.replay.given (subst (λ (L : List Entry). EndsBy P q.order L f) (sym same) q.ends)))

-- ---- in each order, or as they came

pub one_replay_by : (P : Plan) (A : List Arrival) (steps : Option (List Asked)) (order : Option ℕ) (J K : List Entry) (e f : ReplayEnd) → IsReplayBy P A steps order J e → IsReplayBy P A steps order K f → (J ≡ K) × (e ≡ f)
one_replay_by P A steps None J K e f r q = one_record P A steps J K e f r.0 r.1 q.0 q.1
one_replay_by P A steps (Some N) J K e f r q = one_in_order P A N J K e f r q
