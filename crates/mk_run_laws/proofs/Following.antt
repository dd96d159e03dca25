-- What was got of simulators within the program begins with what they say in each family that
-- answers by kind.
use Rattle.std.proofs.Common.{◌≡◌, ℕ, ◌<◌, ◌==◌, Bool, true, false, List, [], ◌∷◌, ◌++◌, map, Option, Some, None, option_map, refl, sym, ap, ◌∙◌, subst, append_assoc, true≢false}
use Rattle.std.proofs.lemmas.Bool.{eqb-true}
use Rattle.mk_base.specs.declared.SimNo.{SimNo}
use Rattle.mk_base.specs.declared.tier.Tier.{Tier}
use Rattle.mk_base.specs.Lists.{BeginsWith}
use Rattle.mk_base.proofs.Lists.{append_nil, filter_map_append}
use Rattle.mk_plan.specs.declared.Plan.{Plan}
use Rattle.mk_plan.specs.declared.Message.{Message}
use Rattle.mk_plan.specs.declared.Entry.{Entry}
use Rattle.mk_plan.specs.declared.Entry.TheVariants.{Sent, Got}
use Rattle.mk_plan.specs.Plans.{sim_count, IsValidPlan}
use Rattle.mk_plan.specs.Acts.{Said, Heard, Family}
use Rattle.mk_plan.specs.Sequential.{Messages, sequential, run_talk, items, all_ended, talk_of, run_items, messages_in}
use Rattle.mk_plan.specs.Journals.{View, OpenTurn, Owed, view, sent, got, said, bare, got_from}
use Rattle.mk_plan.specs.Ready.{IsReady, IsDone}
use Rattle.mk_plan.specs.Advance.{IsAdvance}
use Rattle.mk_plan.specs.Orderly.{IsNext, IsAllowed, IsOrderlySoFar}
use Rattle.mk_plan.specs.Agreement.{Continues}
use Rattle.mk_order_any.specs.Parts as theory
use Rattle.mk_order_any.proofs.ActLists.{each_ended, all_ended_of}
use Rattle.mk_order_any.proofs.Talks.{at_end}
use Rattle.mk_order.proofs.Theory.{parts, laws, seq_is}
use Rattle.mk_order.proofs.Seen.{seen, turn_of, reached, owed_at}
use Rattle.mk_order.proofs.Told.{heard_seen, said_seen, said_is, got_is}
use Rattle.mk_order.proofs.Agreeing.{goes_on}
use Rattle.mk_order.proofs.Pushing.{got_push, orderly_front}
use Rattle.mk_run_laws.specs.Kinds.{Replies, AnswersByKind, IsKindReply, KeepsToKinds}
use Rattle.mk_run_laws.proofs.NextHeard.{GoesOnWith, next_heard}

module _ (P : Plan) (valid : IsValidPlan P) where
  Orderly : List Entry → Type 0
  Orderly = IsOrderlySoFar IsReady IsAdvance P

  its : (V : View) (s : ℕ) (x : Tier) → IsReady P V s x → IsReady P V s x
  its V s x r = r

  -- nothing is owed before a message
  none_owed : (V : View) (s : SimNo) (m : Message) → IsAllowed IsReady IsAdvance P V (Got s m) → V.owed ≡ None
  none_owed V s m allowed = go V.owed refl allowed.1
    where
      go : (o : Option Owed) → V.owed ≡ o → IsNext IsReady IsAdvance P V o (Got s m) → V.owed ≡ None
      go None e next = e
      go (Some o) e next = absurd (apart o next)
        where
          is_got : Entry → Bool
          is_got (Sent t item) = false
          is_got (Got t n) = true

          apart : (o : Owed) → Got s m ≡ Sent (record { 0 = o.sim }) o.item → ⊥
          apart o e = true≢false (ap is_got e)

  module _ (reply : Replies) (inside : ℕ → Bool) (R : Messages) (by_kind : AnswersByKind reply inside P R) where
    -- one message of a simulator within the program
    step : (H : List Entry) (s : SimNo) (m : Message) → Orderly H → IsAllowed IsReady IsAdvance P (view P H) (Got s m) → Continues P H R → s.0 < sim_count P → inside s.0 ≡ true → IsKindReply reply P H s.0 m
        → BeginsWith (R s.0) (got H s.0 ++ m ∷ [])
    unfolding Orderly
    step H s m orderly allowed cont low here keeps = go (V.open_at i) refl
      where
        V : View
        V = view P H

        i : ℕ
        i = s.0

        all : theory.Every (λ (a : theory.Parts.Act (parts P)). theory.Parts.ended (parts P) a ≡ true) (theory.seq (parts P) R i)
        all = each_ended (parts P) (theory.seq (parts P) R i) (ap (λ (F : Family). all_ended (F i)) (seq_is P R) ∙ by_kind.uncut i low here)

        from : (T : OpenTurn) → GoesOnWith (parts P) (laws P valid) R (seen P V) i (turn_of P V.owed i T) → BeginsWith (R i) (got H i ++ m ∷ [])
        from T g =
            let said_all : run_talk P R i ≡ said V i ++ Heard g.m ∷ g.more =
            sym (ap (λ (F : Family). talk_of (F i)) (seq_is P R)) ∙ g.said
            ∙ ap (λ (l : List Said). (l ++ owed_at V.owed i) ++ Heard g.m ∷ g.more) (said_seen P V i)
            ∙ ap (λ (o : Option Owed). (said V i ++ owed_at o i) ++ Heard g.m ∷ g.more) (none_owed V s m allowed)
            ∙ ap (λ (l : List Said). l ++ Heard g.m ∷ g.more) (append_nil (said V i)) in
            let same : g.m ≡ m = by_kind.replies i low here (said V i) g.more g.m said_all ∙ ap (reply i) (said_is IsReady IsAdvance P its H orderly i) ∙ sym keeps.is in (
              g.later,
              g.messages ∙ ap (λ (l : List Message). l ++ g.m ∷ g.later) (heard_seen P V i ∙ sym (got_is IsReady IsAdvance P its H orderly allowed.0 i))
                  ∙ ap (λ (n : Message). got H i ++ n ∷ g.later) same ∙ sym (append_assoc (got H i) (m ∷ []) g.later),
            )

        go : (o : Option OpenTurn) → V.open_at i ≡ o → BeginsWith (R i) (got H i ++ m ∷ [])
        go None shut = absurd (keeps.open_there shut)
        go (Some T) is = from T (next_heard (parts P) (laws P valid) R (seen P V) (reached IsReady IsAdvance P its H orderly) (goes_on IsReady IsAdvance P its valid H orderly R cont) i (turn_of P V.owed i T)
            (ap (λ (o : Option OpenTurn). option_map (turn_of P V.owed i) o) is) all)

    begins_less : {X : Type 0} (l a b : List X) → BeginsWith l (a ++ b) → BeginsWith l a
    begins_less l a b t = (b ++ t.0, t.1 ∙ append_assoc a b t.0)

    -- from each point of the journal on
    walk : (J : List Entry) → Orderly J → KeepsToKinds reply inside P J → ((i : ℕ) → i < sim_count P → inside i ≡ false → BeginsWith (R i) (got J i))
        → (H K : List Entry) → J ≡ H ++ K → Continues P H R → Continues P J R
    unfolding Orderly
    walk J orderly keeps links H [] is cont = subst (λ (G : List Entry). Continues P G R) (sym (append_nil H) ∙ sym is) cont
    walk J orderly keeps links H (e ∷ K) is cont = walk J orderly keeps links (H ++ e ∷ []) K (is ∙ sym (append_assoc H (e ∷ []) K)) next
      where
        parts_of : IsOrderlySoFar IsReady IsAdvance P H × IsAllowed IsReady IsAdvance P (view P H) e
        parts_of = let t = orderly_front IsReady IsAdvance P H (e ∷ K) (subst (λ (G : List Entry). IsOrderlySoFar IsReady IsAdvance P G) is orderly) in (t.0, t.1.0)

        same : (i : ℕ) → i < sim_count P → got (e ∷ []) i ≡ [] → BeginsWith (R i) (got (H ++ e ∷ []) i)
        same i low none = subst (λ (l : List Message). BeginsWith (R i) l) (sym (got_push H e i ∙ ap (λ (l : List Message). got H i ++ l) none ∙ append_nil (got H i))) (cont i low)

        here : (f : Entry) → e ≡ f → (i : ℕ) → i < sim_count P → inside i ≡ true → BeginsWith (R i) (got (H ++ e ∷ []) i)
        here (Sent s item) q i low h = same i low (ap (λ (f : Entry). got (f ∷ []) i) q)
        here (Got s m) q i low h = elim (s.0 == i) as (λ b. (s.0 == i) ≡ b → BeginsWith (R i) (got (H ++ e ∷ []) i)) [
          | true ↦ λ eq.
              let is_i : s.0 ≡ i = eqb-true s.0 i eq in
              let one : got (e ∷ []) i ≡ m ∷ [] = ap (λ (f : Entry). got (f ∷ []) i) q ∙ rw eq refl in
              let t : BeginsWith (R s.0) (got H s.0 ++ m ∷ []) = step H s m parts_of.0 (subst (λ (f : Entry). IsAllowed IsReady IsAdvance P (view P H) f) q parts_of.1) cont (subst (λ (j : ℕ). j < sim_count P) (sym is_i) low)
              (ap inside is_i ∙ h) (keeps H s m K (is ∙ ap (λ (f : Entry). H ++ f ∷ K) q) (ap inside is_i ∙ h)) in
              subst (λ (l : List Message). BeginsWith (R i) l) (sym (got_push H e i ∙ ap (λ (l : List Message). got H i ++ l) one)) (subst (λ (j : ℕ). BeginsWith (R j) (got H j ++ m ∷ [])) is_i t)
          | false ↦ λ eq. same i low (ap (λ (f : Entry). got (f ∷ []) i) q ∙ rw eq refl)
        ] refl

        next : Continues P (H ++ e ∷ []) R
        next i low = elim (inside i) as (λ b. inside i ≡ b → BeginsWith (R i) (got (H ++ e ∷ []) i)) [
          | true ↦ λ h. here e refl i low h
          | false ↦ λ h. begins_less (R i) (got (H ++ e ∷ []) i) (got K i) (subst (λ (l : List Message). BeginsWith (R i) l)
              (ap (λ (G : List Entry). got G i) (is ∙ sym (append_assoc H (e ∷ []) K)) ∙ filter_map_append (got_from i) (H ++ e ∷ []) K) (links i low h))
        ] refl

    -- what was got of each simulator within the program begins its list, where it begins the list
    -- of each simulator with a link
    pub followed : (J : List Entry) → IsOrderlySoFar IsReady IsAdvance P J → KeepsToKinds reply inside P J → ((i : ℕ) → i < sim_count P → inside i ≡ false → BeginsWith (R i) (got J i)) → Continues P J R
    unfolding Orderly
    followed J orderly keeps links = walk J orderly keeps links [] J refl (λ i low. (R i, refl))

  -- where nothing is left to do, sequential execution over whatever goes on is what was sent, and
  -- no turn in it is cut
  pub record IsAllOf (J : List Entry) (R : Messages) (i : ℕ) : Type 0 where
    pub items : map bare (sent J i) ≡ run_items P R i
    pub talk : said (view P J) i ≡ run_talk P R i
    pub messages : messages_in (sequential P R i) ≡ got J i
    pub ended : all_ended (sequential P R i) ≡ true

  pub all_done : (J : List Entry) → IsOrderlySoFar IsReady IsAdvance P J → IsDone P (view P J) → (R : Messages) → Continues P J R → (i : ℕ) → IsAllOf J R i
  all_done J orderly done R cont i =
      let t = at_end (parts P) (laws P valid) (seen P (view P J)) (reached IsReady IsAdvance P its J orderly) (λ j k. ap (option_map (turn_of P (view P J).owed j)) (done.closed j k)) done.none_pending R
      (goes_on IsReady IsAdvance P its valid J orderly R cont) i in
      let talk_is : said (view P J) i ≡ run_talk P R i = sym (said_seen P (view P J) i) ∙ t.talk_is ∙ ap (λ (F : Family). talk_of (F i)) (seq_is P R) in
      record {
        items = sym (said_is IsReady IsAdvance P its J orderly i) ∙ ap items talk_is;
        talk = talk_is;
        messages = sym (ap (λ (F : Family). messages_in (F i)) (seq_is P R)) ∙ t.all_used ∙ heard_seen P (view P J) i ∙ sym (got_is IsReady IsAdvance P its J orderly done.no_fault i);
        ended = sym (ap (λ (F : Family). all_ended (F i)) (seq_is P R)) ∙ all_ended_of (parts P) (theory.seq (parts P) R i) t.all_whole;
      }
