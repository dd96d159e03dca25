-- An item that is sent anew to a simulator within the program is one that it replies to: a Step, or
-- what is owed after a success.
use Rattle.std.proofs.Common.{◌≡◌, ◌⊎◌, inl, inr, ℕ, true, List, [], ◌∷◌, ◌++◌, Option, Some, None, refl, sym, ap, ◌∙◌, subst, append_assoc}
use Rattle.mk_base.specs.declared.SimNo.{SimNo}
use Rattle.mk_base.proofs.Lists.{append_nil, none_some, some_same}
use Rattle.mk_plan.specs.declared.Plan.{Plan}
use Rattle.mk_plan.specs.declared.Item.{Item}
use Rattle.mk_plan.specs.declared.Item.TheVariants.{Step, GetData, Answer, Refuse}
use Rattle.mk_plan.specs.declared.Message.{Message}
use Rattle.mk_plan.specs.declared.Entry.{Entry}
use Rattle.mk_plan.specs.declared.Entry.TheVariants.{Sent, Got}
use Rattle.mk_plan.specs.declared.Place.{Place}
use Rattle.mk_plan.specs.declared.Cause.{Cause}
use Rattle.mk_plan.specs.Plans.{IsValidPlan}
use Rattle.mk_plan.specs.Turns.{wanted, wrong, next_place}
use Rattle.mk_plan.specs.Ready.{IsReady}
use Rattle.mk_plan.specs.Advance.{IsAdvance}
use Rattle.mk_plan.specs.Orderly.{IsAllowed, IsNext, IsOrderlyFrom, IsOrderlySoFar}
use Rattle.mk_plan.specs.Journals.{OpenTurn, Owed, View, got, note_got, note_right, place_at, view}
use Rattle.mk_order.proofs.Pushing.{orderly_front, view_push}
use Rattle.mk_local.specs.Replies.{IsItemReplied}
use Rattle.mk_run_laws.proofs.Stepping.{got_here}
use Rattle.mk_run_local.specs.Calls.{IsFitSuccess}
use Rattle.mk_run.proofs.LoopSteps.{owed_after}
use Rattle.mk_run.proofs.Pushed.{same_last}
use Rattle.mk_run.proofs.Times.{ready_time}
use Rattle.mk_resume_walk.specs.Walks.{has_none}
use Rattle.mk_resume_walk.proofs.Passing.{none_got}

-- a list's last entry
last_of : (H : List Entry) → (H ≡ []) ⊎ ((K : List Entry) × (e : Entry) × (H ≡ K ++ e ∷ []))
last_of [] = inl refl
last_of (d ∷ H) = elim (last_of H) [
  | inl none ↦ inr ([], d, ap (λ (l : List Entry). d ∷ l) none)
  | inr t ↦ inr (d ∷ t.0, t.1, ap (λ (l : List Entry). d ∷ l) t.2)
]

-- what is owed after a message is owed to its simulator
owed_to : (P : Plan) (J : List Entry) (t : SimNo) (m : Message) (o : Owed) → (view P J).owed ≡ None → (view P (J ++ Got t m ∷ [])).owed ≡ Some o → t.0 ≡ o.sim
owed_to P J t m o owes owed = by_open (V.open_at t.0) (wrong P t.0 (place_at (V.open_at t.0)) m) (ap (λ (W : View). W.owed) (sym (view_push P J (Got t m))) ∙ owed)
  where
    V : View
    V = view P J

    by_place : (T : OpenTurn) (q : Option Place) → (note_right P V t.0 m T q).owed ≡ Some o → t.0 ≡ o.sim
    by_place T None e = absurd (none_some (sym owes ∙ e))
    by_place T (Some q) e = ap (λ (x : Owed). x.sim) (some_same e)

    by_open : (p : Option OpenTurn) (c : Option Cause) → (note_got P V t.0 m p c).owed ≡ Some o → t.0 ≡ o.sim
    by_open p (Some c) e = absurd (none_some (sym owes ∙ e))
    by_open None None e = absurd (none_some (sym owes ∙ e))
    by_open (Some T) None e = by_place T (next_place P t.0 T.place m) e

-- and its message is the last entry
record IsOwedBy (P : Plan) (H : List Entry) (o : Owed) : Type 0 where
  before : List Entry
  sim : SimNo
  message : Message
  is : H ≡ before ++ Got sim message ∷ []
  same : sim.0 ≡ o.sim
  none : (view P before).owed ≡ None

owed_by : (P : Plan) (H : List Entry) → IsOrderlySoFar IsReady IsAdvance P H → (o : Owed) → (view P H).owed ≡ Some o → IsOwedBy P H o
owed_by P H orderly o owed = elim (last_of H) [
  | inl none ↦ absurd (none_some (ap (λ (K : List Entry). (view P K).owed) (sym none) ∙ owed))
  | inr t ↦ by_last t.0 t.1 t.2
]
  where
    by_last : (K : List Entry) (e : Entry) → H ≡ K ++ e ∷ [] → IsOwedBy P H o
    by_last K (Sent s item) is = absurd (none_some (sym (ap (λ (W : View). W.owed) (view_push P K (Sent s item))) ∙ ap (λ (L : List Entry). (view P L).owed) (sym is) ∙ owed))
    by_last K (Got s m) is =
        let after : (view P (K ++ Got s m ∷ [])).owed ≡ Some o = ap (λ (L : List Entry). (view P L).owed) (sym is) ∙ owed in
        let none : (view P K).owed ≡ None = free (view P K).owed refl allowed.1 in
        record { before = K; sim = s; message = m; is = is; same = owed_to P K s m o none after; none = none }
      where
        allowed : IsAllowed IsReady IsAdvance P (view P K) (Got s m)
        allowed = (orderly_front IsReady IsAdvance P K (Got s m ∷ []) (subst (IsOrderlySoFar IsReady IsAdvance P) is orderly)).1.0

        not_sent : (x : SimNo) (item : Item) → Got s m ≡ Sent x item → ⊥
        not_sent x item e = cc

        free : (p : Option Owed) → (view P K).owed ≡ p → IsNext IsReady IsAdvance P (view P K) p (Got s m) → (view P K).owed ≡ None
        free None e next = e
        free (Some q) e next = absurd (not_sent (record { 0 = q.sim }) q.item next)

sent_same : (s t : SimNo) (item other : Item) → Sent s item ≡ Sent t other → (s ≡ t) × (item ≡ other)
sent_same s t item other e = (cc, cc)

-- where the messages of the simulator that stand last before the item are successes, it replies to
-- the item
pub replied_anew : (P : Plan) → IsValidPlan P → (J gone between later : List Entry) (i : ℕ) (t : SimNo) (item : Item) → IsOrderlySoFar IsReady IsAdvance P J → J ≡ (gone ++ between) ++ Sent t item ∷ later → has_none i between ≡ true → t.0 ≡ i
    → ((H : List Entry) (s : SimNo) (m : Message) → gone ≡ H ++ Got s m ∷ [] → s.0 ≡ i → IsFitSuccess m) → IsItemReplied item
replied_anew P valid J gone between later i t item orderly parts none own fit = go (view P H).owed refl allowed.1
  where
    H : List Entry
    H = gone ++ between

    both : IsOrderlySoFar IsReady IsAdvance P H × IsOrderlyFrom IsReady IsAdvance P (view P H) (Sent t item ∷ later)
    both = orderly_front IsReady IsAdvance P H (Sent t item ∷ later) (subst (IsOrderlySoFar IsReady IsAdvance P) parts orderly)

    allowed : IsAllowed IsReady IsAdvance P (view P H) (Sent t item)
    allowed = both.1.0

    by_item : (it : Item) → IsNext IsReady IsAdvance P (view P H) None (Sent t it) → IsItemReplied it
    by_item (Step x ins advance) next = let r = ready_time P valid H both.0 t.0 x next.0.0 in (r.0, r.1)
    by_item (GetData wants) next = tt
    by_item (Answer id content) next = absurd next
    by_item (Refuse id reason) next = absurd next

    -- the message stands before the place that was gone to
    stands_last : (o : Owed) (b : IsOwedBy P H o) → b.sim.0 ≡ i → IsFitSuccess b.message
    stands_last o b same = elim (last_of between) [
      | inl empty ↦ fit b.before b.sim b.message (sym (ap (λ (l : List Entry). gone ++ l) empty ∙ append_nil gone) ∙ b.is) same
      | inr e ↦ absurd (no_message e.0 e.1 e.2)
    ]
      where
        no_message : (K : List Entry) (e : Entry) → between ≡ K ++ e ∷ [] → ⊥
        no_message K e is =
            let same_e : e ≡ Got b.sim b.message = (same_last (gone ++ K) b.before e (Got b.sim b.message) (append_assoc gone K (e ∷ []) ∙ ap (λ (l : List Entry). gone ++ l) (sym is) ∙ b.is)).1 in
            let got_it : got between i ≡ got K i ++ b.message ∷ [] = subst (λ (j : ℕ). got between j ≡ got K j ++ b.message ∷ []) same (ap (λ (l : List Entry). got l b.sim.0) (is ∙ ap (λ (d : Entry). K ++ d ∷ []) same_e) ∙ got_here K b.sim b.message) in
            not_nil (got K i) (sym (none_got i between none) ∙ got_it)
          where
            not_nil : (ms : List Message) → [] ≡ ms ++ b.message ∷ [] → ⊥
            not_nil [] q = cc
            not_nil (x ∷ ms) q = cc

    go : (p : Option Owed) → (view P H).owed ≡ p → IsNext IsReady IsAdvance P (view P H) p (Sent t item) → IsItemReplied item
    go None e next = by_item item next
    go (Some o) e next =
        let s = sent_same t (record { 0 = o.sim }) item o.item next in
        let b = owed_by P H both.0 o e in
        let to : b.sim.0 ≡ i = b.same ∙ sym (ap (λ (x : SimNo). x.0) s.0) ∙ own in
        let f = stands_last o b to in
        subst IsItemReplied (sym (after_owed o b e s.1 f)) tt
      where
        owed_is : (o : Owed) (b : IsOwedBy P H o) → item ≡ o.item → o ≡ record { sim = b.sim.0; item = item }
        owed_is o b same = λ k. record { sim = sym b.same k; item = sym same k }

        after_owed : (o : Owed) (b : IsOwedBy P H o) → (view P H).owed ≡ Some o → item ≡ o.item → IsFitSuccess b.message → item ≡ GetData (wanted P b.sim.0)
        after_owed o b e same f =
            (owed_after P b.before b.sim b.message item b.none (ap (λ (L : List Entry). (view P L).owed) (sym b.is) ∙ e ∙ ap (λ (x : Owed). Some x) (owed_is o b same))).after_success f.id f.content f.is
