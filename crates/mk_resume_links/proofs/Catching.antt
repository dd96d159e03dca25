-- Journal, log and crew of a resumed run go on together: what each call of its loop keeps.
use Rattle.std.proofs.Common.{◌≡◌, inl, inr, ℕ, ◌+◌, ◌<◌, ◌≤◌, max, nat_lt, Bool, true, false, ◌&&◌, List, [], ◌∷◌, ◌++◌, length, map, slice_get, Some, if◌then◌else◌, refl, sym, ap, ◌∙◌, subst, arith, length-append, true≢false}
use Rattle.std.proofs.lemmas.Bool.{ltb-true}
use Rattle.mk_base.specs.declared.LinkNo.{LinkNo}
use Rattle.mk_base.specs.declared.SimNo.{SimNo}
use Rattle.mk_base.specs.declared.tier.Tier.{Tier}
use Rattle.mk_base.proofs.Lists.{append_nil, get_is, some_same}
use Rattle.mk_plan.specs.declared.Plan.{Plan}
use Rattle.mk_plan.specs.declared.Item.{Item}
use Rattle.mk_plan.specs.declared.Message.{Message}
use Rattle.mk_plan.specs.declared.Entry.{Entry}
use Rattle.mk_plan.specs.declared.Entry.TheVariants.{Sent, Got}
use Rattle.mk_plan.specs.Journals.{Arrival, bare, got, view}
use Rattle.mk_plan.specs.Ready.{IsReady}
use Rattle.mk_plan.specs.Sequential.{Messages, takes_id}
use Rattle.mk_scenario.specs.declared.parts.Scenario.{Scenario}
use Rattle.mk_outside.specs.declared.fleet.LogEntry.{LogEntry}
use Rattle.mk_run_laws.specs.Handshake.{is_within, sim_link}
use Rattle.mk_run_laws.specs.Channels.{Channel}
use Rattle.mk_run_laws.specs.Kinds.{Replies}
use Rattle.mk_run_laws.specs.Crews.{CrewState, channel_at, kept_of, given_by, AreMoved, AreParkedAtRests, IsSentOnLink, IsSentWithin, IsUnheard}
use Rattle.mk_run_laws.specs.Running.{IsBegun}
use Rattle.mk_run_laws.proofs.Stepping.{got_here, got_away, linked_out, given_here, given_away}
use Rattle.mk_resume_walk.specs.Talks.{free_items}
use Rattle.mk_resume_links.specs.Rests.{Counts, repeated}
use Rattle.mk_resume_links.specs.inner.Catching.{IsCatching, IsCatchingWith, WasAwaited, awaited, one_more}
use Rattle.mk_resume_links.specs.inner.Touching.{IsInTouch, IsResting, RepeatsByKind, RestsOver, RestsSoFar}
use Rattle.mk_resume_links.proofs.Growing.{count_sent, free_before, last_there, repeated_away, repeated_got_away, repeated_got_here, repeated_here, repeated_sent}
use Rattle.mk_resume_links.proofs.Repeating.{kinds_longer, kinds_more, kinds_none}
use Rattle.mk_resume_links.proofs.Touching.{begun, kept_within, queued_on_link, seen_as, taken_kept, taken_off}
use Rattle.mk_resume_links.proofs.Waiting.{kept_over, link_over, none_yet, over_longer, over_so_far, ready_over, rests_waited}
use Rattle.mk_run_laws.specs.Exchanges.{exchange}
use Rattle.mk_base.proofs.Counts.{below_greatest, not_same, same_or_not, same_self}

-- ---- counts, apart from what stands around them

-- who is behind stays within what the record has
still_behind : (g s h : ℕ) → g ≡ max s h → h < g → g ≡ max s (h + 1)
still_behind g s h is behind = omega (arith, is, behind)

-- who has caught up goes beyond it
goes_beyond : (g s h : ℕ) → g ≡ max s h → h ≡ g → g + 1 ≡ max s (h + 1)
goes_beyond g s h is caught = omega (arith, is, caught)

there_below : (xs : List Message) (n : ℕ) (m : Message) → slice_get xs n ≡ Some m → n < length xs
there_below xs n m is = (get_is xs n m is).0

-- one message more of simulator s, and none of another
pub more_here : (heard : Counts) (s : ℕ) → one_more heard s s ≡ heard s + 1
more_here heard s = ap (λ (b : Bool). if b then heard s + 1 else heard s) (same_self s)

pub more_away : (heard : Counts) (s i : ℕ) → (i ≡ s → ⊥) → one_more heard s i ≡ heard i
more_away heard s i apart = ap (λ (b : Bool). if b then heard i + 1 else heard i) (not_same i s apart)

module _ (saved : Counts) (started : ℕ) (S : Scenario) (replies : Messages) (reply : Replies) (P : Plan) where
  abbrev With : (ℕ → List Item) → (ℕ → List Message) → List Entry → Counts → List LogEntry → CrewState → Type 0
  With X A J heard log C = IsCatchingWith X A saved (exchange started S reply log) replies P J heard C

  few : (J : List Entry) (heard : Counts) → ((i : ℕ) → length (got J i) ≡ max (saved i) (heard i)) → (i : ℕ) → heard i ≤ length (got J i)
  few J heard counts i = below_greatest (length (got J i)) (saved i) (heard i) (counts i)

  -- the handshake is over, and nothing was sent behind it
  pub catching_begun : (J : List Entry) (log : List LogEntry) (C : CrewState) → ((i : ℕ) → length (got J i) ≡ saved i) → IsBegun started S replies log C → With (λ i. []) (λ i. []) J (λ i. 0) log C
  catching_begun J log C all b = record {
    counts = λ i. all i ∙ at_least (saved i);
    touch = seen_as started S replies (λ i. []) (λ i. repeated J i 0) (λ i. []) (λ i. []) (λ i. []) (λ i. []) log C (begun started S replies log C b) (λ i l linked. refl) (λ i l linked. refl) (λ i. refl);
    kinds = kinds_none reply (is_within S) J;
    rests = over_so_far saved started S replies P J log C.kept (none_yet saved started S replies P J log C b);
  }
    where
      at_least : (n : ℕ) → n ≡ max n 0
      at_least n = omega arith

  -- an item is queued on a channel
  pub catching_queued : (X Y : ℕ → List Item) (A : ℕ → List Message) (J : List Entry) (heard : Counts) (log : List LogEntry) (C D : CrewState) (s : ℕ) (item : Item) (id : ℕ) (l : LinkNo) → With X A J heard log C
      → sim_link started S s ≡ Some l → IsSentOnLink s item id C D → ((w : Channel) → channel_at C s ≡ Some w → takes_id item ≡ true → id ≡ w.next)
      → Y s ≡ X s ++ item ∷ [] → ((i : ℕ) → (i ≡ s → ⊥) → Y i ≡ X i) → With Y A J heard log D
  catching_queued X Y A J heard log C D s item id l c linked sent_so right more others = record {
    counts = c.counts;
    touch = queued_on_link started S replies (λ i. repeated J i (heard i)) X Y A log C D s item id l c.touch linked sent_so right more others;
    kinds = c.kinds;
    rests = subst (λ (k : List Arrival). RestsSoFar saved started S replies P J log k) (sym sent_so.kept) c.rests;
  }

  -- a reply of a simulator within the program is kept, a message having come since each rest
  pub catching_kept : (X Y : ℕ → List Item) (A B : ℕ → List Message) (J : List Entry) (heard : Counts) (log : List LogEntry) (C D : CrewState) (s : ℕ) (m : Message) → With X A J heard log C → RestsOver saved started S replies P J log
      → IsSentWithin s m C D → ((i : ℕ) (l : LinkNo) → sim_link started S i ≡ Some l → X i ≡ Y i) → ((i : ℕ) → B i ≡ A i ++ given_by s m i) → With Y B J heard log D
  catching_kept X Y A B J heard log C D s m c over sent_so items awaits = record {
    counts = c.counts;
    touch = kept_within started S replies (λ i. repeated J i (heard i)) X Y A B log C D s m c.touch sent_so items awaits;
    kinds = c.kinds;
    rests = over_so_far saved started S replies P J log D.kept over;
  }

  -- the journal gets an item, a message having come since each rest
  pub catching_sent : (X : ℕ → List Item) (A : ℕ → List Message) (J : List Entry) (heard : Counts) (log : List LogEntry) (C : CrewState) (s : SimNo) (item : Item) → With X A J heard log C → RestsOver saved started S replies P J log
      → With X A (J ++ Sent s item ∷ []) heard log C × RestsOver saved started S replies P (J ++ Sent s item ∷ []) log
  catching_sent X A J heard log C s item c over =
      let longer = over_longer saved started S replies P J (Sent s item) log over in (
        record {
          counts = λ i. count_sent J s item i ∙ c.counts i;
          touch = seen_as started S replies (λ i. repeated J i (heard i)) (λ i. repeated (J ++ Sent s item ∷ []) i (heard i)) X X A A log C c.touch (λ i l linked. sym (repeated_sent J s item i (heard i))) (λ i l linked. refl) (λ i. refl);
          kinds = kinds_longer reply (is_within S) J heard (Sent s item ∷ []) (few J heard c.counts) c.kinds;
          rests = over_so_far saved started S replies P (J ++ Sent s item ∷ []) log C.kept longer;
        },
        longer,
      )

  -- where somebody was ready, one has come
  pub catching_ready : (X : ℕ → List Item) (A : ℕ → List Message) (J : List Entry) (heard : Counts) (log : List LogEntry) (C : CrewState) (i : ℕ) (x : Tier) → With X A J heard log C → IsReady P (view P J) i x → RestsOver saved started S replies P J log
  catching_ready X A J heard log C i x c ready = ready_over saved started S replies P J log C.kept i x ready c.rests

  -- ---- a message is heard

  counts_again : (J : List Entry) (heard : Counts) (s : ℕ) (m : Message) → ((i : ℕ) → length (got J i) ≡ max (saved i) (heard i)) → slice_get (got J s) (heard s) ≡ Some m → (i : ℕ) → length (got J i) ≡ max (saved i) (one_more heard s i)
  counts_again J heard s m counts is i = elim (same_or_not i s) [
    | inl q ↦ subst (λ (j : ℕ). length (got J j) ≡ max (saved j) (one_more heard s j)) (sym q)
        (still_behind (length (got J s)) (saved s) (heard s) (counts s) (there_below (got J s) (heard s) m is) ∙ ap (max (saved s)) (sym (more_here heard s)))
    | inr apart ↦ counts i ∙ ap (max (saved i)) (sym (more_away heard s i apart))
  ]

  counts_new : (J : List Entry) (heard : Counts) (s : SimNo) (m : Message) → ((i : ℕ) → length (got J i) ≡ max (saved i) (heard i)) → heard s.0 ≡ length (got J s.0) → (i : ℕ) → length (got (J ++ Got s m ∷ []) i) ≡ max (saved i) (one_more heard s.0 i)
  counts_new J heard s m counts caught i = elim (same_or_not i s.0) [
    | inl q ↦ subst (λ (j : ℕ). length (got (J ++ Got s m ∷ []) j) ≡ max (saved j) (one_more heard s.0 j)) (sym q)
        (ap length (got_here J s m) ∙ length-append (got J s.0) (m ∷ []) ∙ goes_beyond (length (got J s.0)) (saved s.0) (heard s.0) (counts s.0) caught ∙ ap (max (saved s.0)) (sym (more_here heard s.0)))
    | inr apart ↦ ap length (got_away J s m i apart) ∙ counts i ∙ ap (max (saved i)) (sym (more_away heard s.0 i apart))
  ]

  messages_again : (J : List Entry) (heard : Counts) (s : ℕ) (m : Message) → slice_get (got J s) (heard s) ≡ Some m → (i : ℕ) → repeated J i (heard i) ++ given_by s m i ≡ repeated J i (one_more heard s i)
  messages_again J heard s m is i = elim (same_or_not i s) [
    | inl q ↦ subst (λ (j : ℕ). repeated J j (heard j) ++ given_by s m j ≡ repeated J j (one_more heard s j)) (sym q) (sym (ap (repeated J s) (more_here heard s) ∙ repeated_here J s m (heard s) is))
    | inr apart ↦ sym (ap (repeated J i) (more_away heard s i apart) ∙ repeated_away J s m i (heard i) apart)
  ]

  messages_new : (J : List Entry) (heard : Counts) (s : SimNo) (m : Message) → heard s.0 ≡ length (got J s.0) → (i : ℕ) → repeated J i (heard i) ++ given_by s.0 m i ≡ repeated (J ++ Got s m ∷ []) i (one_more heard s.0 i)
  messages_new J heard s m caught i = elim (same_or_not i s.0) [
    | inl q ↦ subst (λ (j : ℕ). repeated J j (heard j) ++ given_by s.0 m j ≡ repeated (J ++ Got s m ∷ []) j (one_more heard s.0 j)) (sym q)
        (sym (ap (repeated (J ++ Got s m ∷ []) s.0) (more_here heard s.0) ∙ repeated_got_here J s m (heard s.0) caught))
    | inr apart ↦ sym (ap (repeated (J ++ Got s m ∷ []) i) (more_away heard s.0 i apart) ∙ repeated_got_away J s m i (heard i) apart)
  ]

  -- a message of a link is one that its simulator has to send again
  pub again_on_link : (A : ℕ → List Message) (J : List Entry) (heard : Counts) (log entries : List LogEntry) (C D : CrewState) (s : ℕ) (m : Message) (l : LinkNo) → With (λ i. free_items J i (heard i)) A J heard log C → IsResting S P J
      → sim_link started S s ≡ Some l → C.kept ≡ [] → D.kept ≡ [] → AreMoved entries (given_by s m) C D → AreParkedAtRests entries C → slice_get (got J s) (heard s) ≡ Some m
      → With (λ i. free_items J i (heard i)) A J (one_more heard s) (log ++ entries) D
  again_on_link A J heard log entries C D s m l c resting linked none none_after moved parked is = record {
    counts = counts_again J heard s m c.counts is;
    touch = seen_as started S replies (λ i. repeated J i (heard i) ++ given_by s m i) (λ i. repeated J i (one_more heard s i)) (λ i. free_items J i (heard i)) (λ i. free_items J i (heard i)) A A (log ++ entries) D
        (taken_off started S replies (λ i. repeated J i (heard i)) (λ i. free_items J i (heard i)) A log entries C D (given_by s m) c.touch moved (none_after ∙ sym none)) (λ i l linked. messages_again J heard s m is i) (λ i l linked. refl) (λ i. refl);
    kinds = kinds_more reply (is_within S) J heard (one_more heard s) s c.kinds (more_here heard s) (more_away heard s) (λ n inside there. absurd (true≢false (sym inside ∙ linked_out started S s l linked)));
    rests = rests_waited saved started S replies P J heard A log entries C c.touch (λ i k link. c.counts i) resting parked none D.kept none_after c.rests;
  }

  -- a message of a link whose simulator had caught up is the journal's next entry
  pub new_on_link : (A : ℕ → List Message) (J : List Entry) (heard : Counts) (log entries : List LogEntry) (C D : CrewState) (s : SimNo) (m : Message) (l : LinkNo) → With (λ i. free_items J i (heard i)) A J heard log C → IsResting S P J
      → sim_link started S s.0 ≡ Some l → C.kept ≡ [] → D.kept ≡ [] → AreMoved entries (given_by s.0 m) C D → AreParkedAtRests entries C → heard s.0 ≡ length (got J s.0)
      → With (λ i. free_items J i (heard i)) A (J ++ Got s m ∷ []) (one_more heard s.0) (log ++ entries) D × RestsOver saved started S replies P (J ++ Got s m ∷ []) (log ++ entries)
  new_on_link A J heard log entries C D s m l c resting linked none none_after moved parked caught =
      let waited = rests_waited saved started S replies P J heard A log entries C c.touch (λ i k link. c.counts i) resting parked none D.kept none_after c.rests in
      let over = link_over saved started S replies P J (log ++ entries) D.kept s m l linked waited in (
        record {
          counts = counts_new J heard s m c.counts caught;
          touch = seen_as started S replies (λ i. repeated J i (heard i) ++ given_by s.0 m i) (λ i. repeated (J ++ Got s m ∷ []) i (one_more heard s.0 i)) (λ i. free_items J i (heard i)) (λ i. free_items J i (heard i)) A A (log ++ entries) D
              (taken_off started S replies (λ i. repeated J i (heard i)) (λ i. free_items J i (heard i)) A log entries C D (given_by s.0 m) c.touch moved (none_after ∙ sym none)) (λ i l linked. messages_new J heard s m caught i) (λ i l linked. refl) (λ i. refl);
          kinds = kinds_new s m (λ n inside there. absurd (true≢false (sym inside ∙ linked_out started S s.0 l linked)));
          rests = over_so_far saved started S replies P (J ++ Got s m ∷ []) (log ++ entries) D.kept over;
        },
        over,
      )
    where
      kinds_new : (s : SimNo) (m : Message) → ((n : Message) → is_within S s.0 ≡ true → slice_get (got (J ++ Got s m ∷ []) s.0) (heard s.0) ≡ Some n → (n ≡ reply s.0 (map bare (free_items (J ++ Got s m ∷ []) s.0 (heard s.0)))) × (heard s.0 < length (free_items (J ++ Got s m ∷ []) s.0 (heard s.0))))
          → RepeatsByKind reply (is_within S) (J ++ Got s m ∷ []) (one_more heard s.0)
      kinds_new s m own = kinds_more reply (is_within S) (J ++ Got s m ∷ []) heard (one_more heard s.0) s.0 (kinds_longer reply (is_within S) J heard (Got s m ∷ []) (few J heard c.counts) c.kinds) (more_here heard s.0) (more_away heard s.0) own

  -- nothing was heard
  pub catching_unheard : (A : ℕ → List Message) (J : List Entry) (heard : Counts) (log entries : List LogEntry) (C D : CrewState) → With (λ i. free_items J i (heard i)) A J heard log C → IsResting S P J → IsUnheard entries C D → With (λ i. free_items J i (heard i)) A J heard (log ++ entries) D
  catching_unheard A J heard log entries C D c resting u = record {
    counts = c.counts;
    touch = seen_as started S replies (λ i. repeated J i (heard i) ++ []) (λ i. repeated J i (heard i)) (λ i. free_items J i (heard i)) (λ i. free_items J i (heard i)) A A (log ++ entries) D
        (taken_off started S replies (λ i. repeated J i (heard i)) (λ i. free_items J i (heard i)) A log entries C D (λ i. []) c.touch u.moved u.kept) (λ i l linked. append_nil (repeated J i (heard i))) (λ i l linked. refl) (λ i. refl);
    kinds = c.kinds;
    rests = rests_waited saved started S replies P J heard A log entries C c.touch (λ i l linked. c.counts i) resting u.parked u.none_kept D.kept (u.kept ∙ u.none_kept) c.rests;
  }

  -- a message of a link was heard, and the run ends by it
  pub apart_on_link : (A : ℕ → List Message) (J : List Entry) (heard : Counts) (log entries : List LogEntry) (C D : CrewState) (s : ℕ) (m : Message) → With (λ i. free_items J i (heard i)) A J heard log C → IsResting S P J
      → C.kept ≡ [] → D.kept ≡ [] → AreMoved entries (given_by s m) C D → AreParkedAtRests entries C
      → IsInTouch (λ i. repeated J i (heard i) ++ given_by s m i) (λ i. free_items J i (heard i)) A started S replies (log ++ entries) D × RestsSoFar saved started S replies P J (log ++ entries) D.kept
  apart_on_link A J heard log entries C D s m c resting none none_after moved parked = (
    taken_off started S replies (λ i. repeated J i (heard i)) (λ i. free_items J i (heard i)) A log entries C D (given_by s m) c.touch moved (none_after ∙ sym none),
    rests_waited saved started S replies P J heard A log entries C c.touch (λ i l linked. c.counts i) resting parked none D.kept none_after c.rests,
  )

  -- ---- a kept reply is taken

  -- the first of the kept replies was awaited
  was_awaited : (J : List Entry) (heard : Counts) (s : ℕ) (m : Message) (kept : List Arrival) → ((i : ℕ) → awaited S reply J heard i ≡ given_by s m i ++ kept_of i kept) → WasAwaited S reply J heard s m kept
  was_awaited J heard s m kept taken = by_tests (is_within S s) (nat_lt (heard s) (length (free_items J s (heard s)))) refl refl (taken s ∙ ap (λ (l : List Message). l ++ kept_of s kept) (given_here s m))
    where
      heads : {X : Type 0} {x y : X} {xs ys : List X} → x ∷ xs ≡ y ∷ ys → (x ≡ y) × (xs ≡ ys)
      heads e = (cc, cc)

      not_nil : {X : Type 0} {x : X} {xs : List X} → [] ≡ x ∷ xs → ⊥
      not_nil e = cc

      by_tests : (a b : Bool) → is_within S s ≡ a → nat_lt (heard s) (length (free_items J s (heard s))) ≡ b → (if a && b then reply s (map bare (free_items J s (heard s))) ∷ [] else []) ≡ m ∷ kept_of s kept → WasAwaited S reply J heard s m kept
      by_tests false b e f h = absurd (not_nil h)
      by_tests true false e f h = absurd (not_nil h)
      by_tests true true e f h = record {
        inside = e;
        is = sym (heads h).0;
        more = ltb-true (heard s) (length (free_items J s (heard s))) f;
        none = sym (heads h).1;
        others = λ i apart. sym (taken i ∙ ap (λ (l : List Message). l ++ kept_of i kept) (given_away s m i apart));
      }

  -- and where it was kept, a message had come since each rest
  rests_taken : (J : List Entry) (heard : Counts) (log entries : List LogEntry) (C D : CrewState) (s : ℕ) (m : Message) → RestsSoFar saved started S replies P J log C.kept → C.kept ≡ record { sim = s; message = m } ∷ D.kept → entries ≡ []
      → RestsOver saved started S replies P J (log ++ entries)
  rests_taken J heard log entries C D s m rests is none = subst (λ (g : List LogEntry). RestsOver saved started S replies P J g) (sym (ap (λ (e : List LogEntry). log ++ e) none ∙ append_nil log))
      (kept_over saved started S replies P J log C.kept (λ empty. not_nil (sym empty ∙ is)) rests)
    where
      not_nil : {X : Type 0} {x : X} {xs : List X} → [] ≡ x ∷ xs → ⊥
      not_nil e = cc

  -- a reply is one that its simulator has to send again
  pub again_within : (J : List Entry) (heard : Counts) (log entries : List LogEntry) (C D : CrewState) (s : ℕ) (m : Message) → IsCatching saved (exchange started S reply log) replies P J heard C
      → C.kept ≡ record { sim = s; message = m } ∷ D.kept → D.channels ≡ C.channels → entries ≡ [] → slice_get (got J s) (heard s) ≡ Some m
      → With (λ i. free_items J i (heard i)) (λ i. kept_of i D.kept) J (one_more heard s) (log ++ entries) D × RestsOver saved started S replies P J (log ++ entries) × WasAwaited S reply J heard s m D.kept
  again_within J heard log entries C D s m c is channels none there =
      let t = taken_kept started S replies (λ i. repeated J i (heard i)) (λ i. free_items J i (heard i)) (awaited S reply J heard) log entries C D s m c.touch is channels none in
      let was = was_awaited J heard s m D.kept t.1 in
      let over = rests_taken J heard log entries C D s m c.rests is none in (
        record {
          counts = counts_again J heard s m c.counts there;
          touch = seen_as started S replies (λ i. repeated J i (heard i)) (λ i. repeated J i (one_more heard s i)) (λ i. free_items J i (heard i)) (λ i. free_items J i (heard i)) (λ i. kept_of i D.kept) (λ i. kept_of i D.kept) (log ++ entries) D t.0
              (λ i l linked. ap (repeated J i) (sym (more_away heard s i (λ q. true≢false (sym was.inside ∙ ap (is_within S) (sym q) ∙ linked_out started S i l linked))))) (λ i l linked. refl) (λ i. refl);
          kinds = kinds_more reply (is_within S) J heard (one_more heard s) s c.kinds (more_here heard s) (more_away heard s) (λ n inside got_it. (some_same (sym got_it ∙ there) ∙ was.is, was.more));
          rests = over_so_far saved started S replies P J (log ++ entries) D.kept over;
        },
        over,
        was,
      )

  -- a reply of a simulator that had caught up is the journal's next entry
  pub new_within : (J : List Entry) (heard : Counts) (log entries : List LogEntry) (C D : CrewState) (s : SimNo) (m : Message) → IsCatching saved (exchange started S reply log) replies P J heard C
      → C.kept ≡ record { sim = s.0; message = m } ∷ D.kept → D.channels ≡ C.channels → entries ≡ [] → heard s.0 ≡ length (got J s.0)
      → With (λ i. free_items J i (heard i)) (λ i. kept_of i D.kept) (J ++ Got s m ∷ []) (one_more heard s.0) (log ++ entries) D × RestsOver saved started S replies P (J ++ Got s m ∷ []) (log ++ entries) × WasAwaited S reply J heard s.0 m D.kept
  new_within J heard log entries C D s m c is channels none caught =
      let t = taken_kept started S replies (λ i. repeated J i (heard i)) (λ i. free_items J i (heard i)) (awaited S reply J heard) log entries C D s.0 m c.touch is channels none in
      let was = was_awaited J heard s.0 m D.kept t.1 in
      let over = over_longer saved started S replies P J (Got s m) (log ++ entries) (rests_taken J heard log entries C D s.0 m c.rests is none) in (
        record {
          counts = counts_new J heard s m c.counts caught;
          touch = seen_as started S replies (λ i. repeated J i (heard i)) (λ i. repeated (J ++ Got s m ∷ []) i (one_more heard s.0 i)) (λ i. free_items J i (heard i)) (λ i. free_items J i (heard i)) (λ i. kept_of i D.kept) (λ i. kept_of i D.kept) (log ++ entries) D t.0
              (λ i l linked. let apart : i ≡ s.0 → ⊥ = (λ q. true≢false (sym was.inside ∙ ap (is_within S) (sym q) ∙ linked_out started S i l linked)) in
              repeated_away J s.0 m i (heard i) apart ∙ messages_new J heard s m caught i) (λ i l linked. refl) (λ i. refl);
          kinds = kinds_more reply (is_within S) (J ++ Got s m ∷ []) heard (one_more heard s.0) s.0 (kinds_longer reply (is_within S) J heard (Got s m ∷ []) (few J heard c.counts) c.kinds) (more_here heard s.0) (more_away heard s.0)
              (λ n inside got_it. own n got_it was.is was.more);
          rests = over_so_far saved started S replies P (J ++ Got s m ∷ []) (log ++ entries) D.kept over;
        },
        over,
        was,
      )
    where
      -- the message is the last one, and as many items were free before it
      own : (n : Message) → slice_get (got (J ++ Got s m ∷ []) s.0) (heard s.0) ≡ Some n → m ≡ reply s.0 (map bare (free_items J s.0 (heard s.0))) → heard s.0 < length (free_items J s.0 (heard s.0))
          → (n ≡ reply s.0 (map bare (free_items (J ++ Got s m ∷ []) s.0 (heard s.0)))) × (heard s.0 < length (free_items (J ++ Got s m ∷ []) s.0 (heard s.0)))
      own n got_it is more =
          let before : free_items J s.0 (heard s.0) ≡ free_items (J ++ Got s m ∷ []) s.0 (heard s.0) = sym (free_before J s m (heard s.0) caught) in (
            some_same (sym got_it ∙ last_there (got J s.0) (got (J ++ Got s m ∷ []) s.0) m (heard s.0) caught (got_here J s m)) ∙ is ∙ ap (λ (l : List Item). reply s.0 (map bare l)) before,
            subst (λ (l : List Item). heard s.0 < length l) before more,
          )

  -- a reply was taken, and the run ends by it
  pub apart_within : (J : List Entry) (heard : Counts) (log entries : List LogEntry) (C D : CrewState) (s : ℕ) (m : Message) → IsCatching saved (exchange started S reply log) replies P J heard C
      → C.kept ≡ record { sim = s; message = m } ∷ D.kept → D.channels ≡ C.channels → entries ≡ []
      → IsInTouch (λ i. repeated J i (heard i)) (λ i. free_items J i (heard i)) (λ i. kept_of i D.kept) started S replies (log ++ entries) D × RestsOver saved started S replies P J (log ++ entries) × WasAwaited S reply J heard s m D.kept
  apart_within J heard log entries C D s m c is channels none =
      let t = taken_kept started S replies (λ i. repeated J i (heard i)) (λ i. free_items J i (heard i)) (awaited S reply J heard) log entries C D s m c.touch is channels none in
      (t.0, rests_taken J heard log entries C D s m c.rests is none, was_awaited J heard s m D.kept t.1)
