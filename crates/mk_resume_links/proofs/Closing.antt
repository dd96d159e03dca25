-- The steps of a resumed run's loop, from one message to the next.
use Rattle.std.proofs.Common.{◌≡◌, inl, inr, ℕ, ◌+◌, ◌<◌, ◌≤◌, nat_lt, Bool, true, ◌&&◌, List, [], ◌∷◌, ◌++◌, length, map, Some, if◌then◌else◌, refl, sym, ap, ◌∙◌, subst, arith, length-append, true≢false}
use Rattle.std.proofs.lemmas.Bool.{lt-ltb}
use Rattle.mk_base.specs.declared.LinkNo.{LinkNo}
use Rattle.mk_base.specs.declared.SimNo.{SimNo}
use Rattle.mk_base.specs.declared.tier.Tier.{Tier}
use Rattle.mk_base.proofs.Lists.{append_nil}
use Rattle.mk_plan.specs.declared.Plan.{Plan}
use Rattle.mk_plan.specs.declared.Item.{Item}
use Rattle.mk_plan.specs.declared.Message.{Message}
use Rattle.mk_plan.specs.declared.Entry.{Entry}
use Rattle.mk_plan.specs.declared.Entry.TheVariants.{Sent, Got}
use Rattle.mk_plan.specs.Journals.{bare, got, view}
use Rattle.mk_plan.specs.Ready.{IsReady}
use Rattle.mk_plan.specs.Sequential.{Messages, takes_id}
use Rattle.mk_scenario.specs.declared.parts.Scenario.{Scenario}
use Rattle.mk_outside.specs.declared.fleet.LogEntry.{LogEntry}
use Rattle.mk_run_laws.specs.Handshake.{is_within, sim_link}
use Rattle.mk_run_laws.specs.Channels.{Channel}
use Rattle.mk_run_laws.specs.Kinds.{Replies}
use Rattle.mk_run_laws.specs.Crews.{CrewState, channel_at, kept_of, given_by, IsSentOnLink, IsSentWithin}
use Rattle.mk_run_laws.proofs.Stepping.{got_here, linked_out, given_here, given_away}
use Rattle.mk_resume_walk.specs.Talks.{free_items}
use Rattle.mk_resume_links.specs.Rests.{Counts, repeated}
use Rattle.mk_resume_links.specs.inner.Catching.{IsCatching, IsCatchingWith, WasAwaited, awaited, one_more}
use Rattle.mk_resume_links.specs.inner.Touching.{RestsOver}
use Rattle.mk_resume_links.proofs.Catching.{catching_kept, catching_queued, catching_ready, catching_sent, more_away, more_here}
use Rattle.mk_resume_links.proofs.Growing.{free_got_away, free_got_here, free_sent_away, free_sent_behind, free_sent_here}
use Rattle.mk_resume_links.proofs.Touching.{seen_as}
use Rattle.mk_run_laws.specs.Exchanges.{exchange}
use Rattle.mk_base.proofs.Counts.{equal_at_most, none_below, same_or_not}
use Rattle.mk_base.proofs.Bools.{and_false}

-- ---- tests of numbers

long_push : (xs : List Item) (x : Item) (n : ℕ) → length xs ≡ n → n < length (xs ++ x ∷ [])
long_push xs x n is = let e = length-append xs (x ∷ []) in omega (arith, e, is)

one_behind : (k n m : ℕ) → m ≡ n + 1 → k ≡ n → k + 1 ≤ m
one_behind k n m more is = omega (arith, more, is)

module _ (saved : Counts) (started : ℕ) (S : Scenario) (replies : Messages) (reply : Replies) (P : Plan) where
  abbrev With : (ℕ → List Item) → (ℕ → List Message) → List Entry → Counts → List LogEntry → CrewState → Type 0
  With X A J heard log C = IsCatchingWith X A saved (exchange started S reply log) replies P J heard C

  abbrev Catching : List Entry → Counts → List LogEntry → CrewState → Type 0
  Catching J heard log C = IsCatching saved (exchange started S reply log) replies P J heard C

  -- ---- what is awaited

  -- of simulator i, where n messages came and these items are free
  abbrev awaits_of : ℕ → ℕ → List Item → List Message
  awaits_of i n items = if is_within S i && nat_lt n (length items) then reply i (map bare items) ∷ [] else []

  awaited_linked : (J : List Entry) (heard : Counts) (i : ℕ) (l : LinkNo) → sim_link started S i ≡ Some l → awaited S reply J heard i ≡ []
  awaited_linked J heard i l linked = ap (λ (b : Bool). if b && nat_lt (heard i) (length (free_items J i (heard i))) then reply i (map bare (free_items J i (heard i))) ∷ [] else []) (linked_out started S i l linked)

  awaited_same : (J K : List Entry) (heard next : Counts) (i : ℕ) → heard i ≡ next i → free_items J i (heard i) ≡ free_items K i (next i) → awaited S reply J heard i ≡ awaited S reply K next i
  awaited_same J K heard next i count free = ap (λ (n : ℕ). awaits_of i n (free_items J i (heard i))) count ∙ ap (awaits_of i (next i)) free

  -- nothing is, where all that is free was answered
  awaited_none : (J : List Entry) (heard : Counts) (i : ℕ) → length (free_items J i (heard i)) ≤ heard i → awaited S reply J heard i ≡ []
  awaited_none J heard i few = ap (λ (b : Bool). if is_within S i && b then reply i (map bare (free_items J i (heard i))) ∷ [] else []) (none_below (heard i) (length (free_items J i (heard i))) few)
      ∙ ap (λ (b : Bool). if b then reply i (map bare (free_items J i (heard i))) ∷ [] else []) (and_false (is_within S i))

  -- the reply to the last item is, where that one wasn't
  awaited_one : (J : List Entry) (heard : Counts) (i : ℕ) → is_within S i ≡ true → heard i < length (free_items J i (heard i)) → awaited S reply J heard i ≡ reply i (map bare (free_items J i (heard i))) ∷ []
  awaited_one J heard i inside more = ap (λ (b : Bool). if b && nat_lt (heard i) (length (free_items J i (heard i))) then reply i (map bare (free_items J i (heard i))) ∷ [] else []) inside
      ∙ ap (λ (b : Bool). if b then reply i (map bare (free_items J i (heard i))) ∷ [] else []) (lt-ltb (heard i) (length (free_items J i (heard i))) more)

  -- ---- by other names

  pub seen : (X Y : ℕ → List Item) (A B : ℕ → List Message) (J : List Entry) (heard : Counts) (log : List LogEntry) (C : CrewState) → With X A J heard log C → ((i : ℕ) (l : LinkNo) → sim_link started S i ≡ Some l → X i ≡ Y i) → ((i : ℕ) → A i ≡ B i) → With Y B J heard log C
  seen X Y A B J heard log C c items awaits = record {
    counts = c.counts;
    touch = seen_as started S replies (λ i. repeated J i (heard i)) (λ i. repeated J i (heard i)) X Y A B log C c.touch (λ i l linked. refl) items awaits;
    kinds = c.kinds;
    rests = c.rests;
  }

  -- a fact of every simulator: of this one, and of the others
  each : (Q : ℕ → Type 0) (s : ℕ) → Q s → ((i : ℕ) → (i ≡ s → ⊥) → Q i) → (i : ℕ) → Q i
  each Q s here others i = elim (same_or_not i s) [ inl q ↦ subst Q (sym q) here | inr apart ↦ others i apart ]

  -- ---- somebody was ready, and is asked

  -- its simulator has a link and has caught up: the item is queued
  pub asked_on_link : (J : List Entry) (heard : Counts) (log : List LogEntry) (C D : CrewState) (s : SimNo) (item : Item) (x : Tier) (id : ℕ) (l : LinkNo) → Catching J heard log C → IsReady P (view P J) s.0 x → length (got J s.0) ≤ heard s.0
      → sim_link started S s.0 ≡ Some l → IsSentOnLink s.0 item id C D → ((w : Channel) → channel_at C s.0 ≡ Some w → takes_id item ≡ true → id ≡ w.next) → Catching (J ++ Sent s item ∷ []) heard log D
  asked_on_link J heard log C D s item x id l c ready caught linked sent_so right =
      let over = catching_ready saved started S replies reply P (λ i. free_items J i (heard i)) (awaited S reply J heard) J heard log C s.0 x c ready in
      let longer = catching_sent saved started S replies reply P (λ i. free_items J i (heard i)) (awaited S reply J heard) J heard log C s item c over in
      let K : List Entry = J ++ Sent s item ∷ [] in
      seen (λ i. free_items K i (heard i)) (λ i. free_items K i (heard i)) (awaited S reply J heard) (awaited S reply K heard) K heard log D
      (catching_queued saved started S replies reply P (λ i. free_items J i (heard i)) (λ i. free_items K i (heard i)) (awaited S reply J heard) K heard log C D s.0 item id l longer.0 linked sent_so right
      (free_sent_here J s item (heard s.0) caught) (λ i apart. free_sent_away J s item i (heard i) apart))
      (λ i k link. refl)
      (each (λ i. awaited S reply J heard i ≡ awaited S reply K heard i) s.0 (awaited_linked J heard s.0 l linked ∙ sym (awaited_linked K heard s.0 l linked))
      (λ i apart. awaited_same J K heard heard i refl (sym (free_sent_away J s item i (heard i) apart))))

  -- it has messages to send again: the item is sent behind them
  pub asked_behind : (J : List Entry) (heard : Counts) (log : List LogEntry) (C : CrewState) (s : SimNo) (item : Item) (x : Tier) → Catching J heard log C → IsReady P (view P J) s.0 x → heard s.0 < length (got J s.0) → Catching (J ++ Sent s item ∷ []) heard log C
  asked_behind J heard log C s item x c ready behind =
      let over = catching_ready saved started S replies reply P (λ i. free_items J i (heard i)) (awaited S reply J heard) J heard log C s.0 x c ready in
      let longer = catching_sent saved started S replies reply P (λ i. free_items J i (heard i)) (awaited S reply J heard) J heard log C s item c over in
      let K : List Entry = J ++ Sent s item ∷ [] in
      let free : (i : ℕ) → free_items J i (heard i) ≡ free_items K i (heard i) = each (λ i. free_items J i (heard i) ≡ free_items K i (heard i)) s.0 (sym (free_sent_behind J s item (heard s.0) behind)) (λ i apart. sym (free_sent_away J s item i (heard i) apart)) in
      seen (λ i. free_items J i (heard i)) (λ i. free_items K i (heard i)) (awaited S reply J heard) (awaited S reply K heard) K heard log C longer.0 (λ i l linked. free i) (λ i. awaited_same J K heard heard i refl (free i))

  -- it runs within the program and has caught up, and nothing is open at it: its reply is kept
  pub asked_within : (J : List Entry) (heard : Counts) (log : List LogEntry) (C D : CrewState) (s : SimNo) (item : Item) (x : Tier) → Catching J heard log C → IsReady P (view P J) s.0 x → length (got J s.0) ≤ heard s.0 → length (free_items J s.0 (heard s.0)) ≡ heard s.0
      → is_within S s.0 ≡ true → IsSentWithin s.0 (reply s.0 (map bare (free_items (J ++ Sent s item ∷ []) s.0 (heard s.0)))) C D → Catching (J ++ Sent s item ∷ []) heard log D
  asked_within J heard log C D s item x c ready caught answered inside sent_so =
      let over = catching_ready saved started S replies reply P (λ i. free_items J i (heard i)) (awaited S reply J heard) J heard log C s.0 x c ready in
      let longer = catching_sent saved started S replies reply P (λ i. free_items J i (heard i)) (awaited S reply J heard) J heard log C s item c over in
      let K : List Entry = J ++ Sent s item ∷ [] in
      let m : Message = reply s.0 (map bare (free_items K s.0 (heard s.0))) in
      let free_here : free_items K s.0 (heard s.0) ≡ free_items J s.0 (heard s.0) ++ item ∷ [] = free_sent_here J s item (heard s.0) caught in
      let long : heard s.0 < length (free_items K s.0 (heard s.0)) = subst (λ (l : List Item). heard s.0 < length l) (sym free_here) (long_push (free_items J s.0 (heard s.0)) item (heard s.0) answered) in
      catching_kept saved started S replies reply P (λ i. free_items J i (heard i)) (λ i. free_items K i (heard i)) (awaited S reply J heard) (awaited S reply K heard) K heard log C D s.0 m longer.0 longer.1 sent_so
      (λ i l linked. sym (free_sent_away J s item i (heard i) (λ q. true≢false (sym inside ∙ ap (is_within S) (sym q) ∙ linked_out started S i l linked))))
      (each (λ i. awaited S reply K heard i ≡ awaited S reply J heard i ++ given_by s.0 m i) s.0
      (awaited_one K heard s.0 inside long ∙ sym (ap (λ (l : List Message). l ++ given_by s.0 m s.0) (awaited_none J heard s.0 (equal_at_most (length (free_items J s.0 (heard s.0))) (heard s.0) answered)) ∙ given_here s.0 m))
      (λ i apart. awaited_same K J heard heard i refl (free_sent_away J s item i (heard i) apart) ∙ sym (ap (λ (l : List Message). awaited S reply J heard i ++ l) (given_away s.0 m i apart) ∙ append_nil (awaited S reply J heard i))))

  -- ---- a message was sent again

  -- ---- a new message was taken

  -- what is free and awaited of the others stays
  free_others : (J : List Entry) (heard : Counts) (s : SimNo) (m : Message) (i : ℕ) → (i ≡ s.0 → ⊥) → free_items J i (heard i) ≡ free_items (J ++ Got s m ∷ []) i (one_more heard s.0 i)
  free_others J heard s m i apart = sym (ap (free_items (J ++ Got s m ∷ []) i) (more_away heard s.0 i apart) ∙ free_got_away J s m i (heard i) apart)

  free_same : (J : List Entry) (heard : Counts) (s : SimNo) (m : Message) → heard s.0 ≡ length (got J s.0) → (i : ℕ) → free_items J i (heard i) ≡ free_items (J ++ Got s m ∷ []) i (one_more heard s.0 i)
  free_same J heard s m caught = each (λ i. free_items J i (heard i) ≡ free_items (J ++ Got s m ∷ []) i (one_more heard s.0 i)) s.0
      (sym (ap (free_items (J ++ Got s m ∷ []) s.0) (more_here heard s.0) ∙ free_got_here J s m (heard s.0) caught)) (free_others J heard s m)

  -- of a link, and nothing is owed
  pub new_quiet : (J : List Entry) (heard : Counts) (log : List LogEntry) (C : CrewState) (s : SimNo) (m : Message) (l : LinkNo) → With (λ i. free_items J i (heard i)) (awaited S reply J heard) (J ++ Got s m ∷ []) (one_more heard s.0) log C
      → sim_link started S s.0 ≡ Some l → heard s.0 ≡ length (got J s.0) → Catching (J ++ Got s m ∷ []) (one_more heard s.0) log C
  new_quiet J heard log C s m l c linked caught = let K : List Entry = J ++ Got s m ∷ [] in
      seen (λ i. free_items J i (heard i)) (λ i. free_items K i (one_more heard s.0 i)) (awaited S reply J heard) (awaited S reply K (one_more heard s.0)) K (one_more heard s.0) log C c (λ i k link. free_same J heard s m caught i)
      (each (λ i. awaited S reply J heard i ≡ awaited S reply K (one_more heard s.0) i) s.0 (awaited_linked J heard s.0 l linked ∙ sym (awaited_linked K (one_more heard s.0) s.0 l linked))
      (λ i apart. awaited_same J K heard (one_more heard s.0) i (sym (more_away heard s.0 i apart)) (free_others J heard s m i apart)))

  -- of a link, and the item that it is answered with was queued
  pub new_answered : (J : List Entry) (heard : Counts) (log : List LogEntry) (C D : CrewState) (s : SimNo) (m : Message) (item : Item) (id : ℕ) (l : LinkNo) → With (λ i. free_items J i (heard i)) (awaited S reply J heard) (J ++ Got s m ∷ []) (one_more heard s.0) log C
      → RestsOver saved started S replies P (J ++ Got s m ∷ []) log → sim_link started S s.0 ≡ Some l → heard s.0 ≡ length (got J s.0) → IsSentOnLink s.0 item id C D → ((w : Channel) → channel_at C s.0 ≡ Some w → takes_id item ≡ true → id ≡ w.next)
      → Catching ((J ++ Got s m ∷ []) ++ Sent s item ∷ []) (one_more heard s.0) log D
  new_answered J heard log C D s m item id l c over linked caught sent_so right =
      let K : List Entry = J ++ Got s m ∷ [] in
      let L : List Entry = K ++ Sent s item ∷ [] in
      let next : Counts = one_more heard s.0 in
      let longer = catching_sent saved started S replies reply P (λ i. free_items J i (heard i)) (awaited S reply J heard) K next log C s item c over in
      let all : length (got K s.0) ≤ next s.0 = subst (λ (k : ℕ). length (got K s.0) ≤ k) (sym (more_here heard s.0)) (equal_at_most (length (got K s.0)) (heard s.0 + 1) (ap length (got_here J s m) ∙ length-append (got J s.0) (m ∷ []) ∙ ap (λ (k : ℕ). k + 1) (sym caught))) in
      seen (λ i. free_items L i (next i)) (λ i. free_items L i (next i)) (awaited S reply J heard) (awaited S reply L next) L next log D
      (catching_queued saved started S replies reply P (λ i. free_items J i (heard i)) (λ i. free_items L i (next i)) (awaited S reply J heard) L next log C D s.0 item id l longer.0 linked sent_so right
      (free_sent_here K s item (next s.0) all ∙ ap (λ (xs : List Item). xs ++ item ∷ []) (sym (free_same J heard s m caught s.0)))
      (λ i apart. free_sent_away K s item i (next i) apart ∙ sym (free_others J heard s m i apart)))
      (λ i k link. refl)
      (each (λ i. awaited S reply J heard i ≡ awaited S reply L next i) s.0 (awaited_linked J heard s.0 l linked ∙ sym (awaited_linked L next s.0 l linked))
      (λ i apart. awaited_same J L heard next i (sym (more_away heard s.0 i apart)) (free_others J heard s m i apart ∙ sym (free_sent_away K s item i (next i) apart))))

  -- ---- a kept reply was taken

  -- nothing follows: it was the answer to the last item
  pub kept_quiet : (J K : List Entry) (heard : Counts) (log : List LogEntry) (C : CrewState) (s : ℕ) (m : Message) → With (λ i. free_items J i (heard i)) (λ i. kept_of i C.kept) K (one_more heard s) log C → WasAwaited S reply J heard s m C.kept
      → ((i : ℕ) → (i ≡ s → ⊥) → free_items J i (heard i) ≡ free_items K i (heard i)) → free_items K s (heard s + 1) ≡ free_items J s (heard s) → length (free_items J s (heard s)) ≡ heard s + 1 → Catching K (one_more heard s) log C
  kept_quiet J K heard log C s m c was others here answered =
      let next : Counts = one_more heard s in
      let free_next : free_items K s (next s) ≡ free_items J s (heard s) = ap (free_items K s) (more_here heard s) ∙ here in
      let away : (i : ℕ) → (i ≡ s → ⊥) → free_items J i (heard i) ≡ free_items K i (next i) = (λ i apart. others i apart ∙ ap (free_items K i) (sym (more_away heard s i apart))) in
      seen (λ i. free_items J i (heard i)) (λ i. free_items K i (next i)) (λ i. kept_of i C.kept) (awaited S reply K next) K next log C c
      (λ i l linked. each (λ j. free_items J j (heard j) ≡ free_items K j (next j)) s (sym free_next) away i)
      (each (λ i. kept_of i C.kept ≡ awaited S reply K next i) s
      (was.none ∙ sym (awaited_none K next s (equal_at_most (length (free_items K s (next s))) (next s) (ap length free_next ∙ answered ∙ sym (more_here heard s)))))
      (λ i apart. was.others i apart ∙ awaited_same J K heard next i (sym (more_away heard s i apart)) (away i apart)))

  -- one item follows, and its reply is kept
  pub kept_answered : (J K : List Entry) (heard : Counts) (log : List LogEntry) (C D : CrewState) (s : ℕ) (m : Message) (item : Item) → With (λ i. free_items J i (heard i)) (λ i. kept_of i C.kept) K (one_more heard s) log C → RestsOver saved started S replies P K log
      → WasAwaited S reply J heard s m C.kept → ((i : ℕ) → (i ≡ s → ⊥) → free_items J i (heard i) ≡ free_items K i (heard i)) → free_items K s (heard s + 1) ≡ free_items J s (heard s) ++ item ∷ [] → length (free_items J s (heard s)) ≡ heard s + 1
      → IsSentWithin s (reply s (map bare (free_items K s (heard s + 1)))) C D → Catching K (one_more heard s) log D
  kept_answered J K heard log C D s m item c over was others here answered sent_so =
      let next : Counts = one_more heard s in
      let n : Message = reply s (map bare (free_items K s (heard s + 1))) in
      let away : (i : ℕ) → (i ≡ s → ⊥) → free_items J i (heard i) ≡ free_items K i (next i) = (λ i apart. others i apart ∙ ap (free_items K i) (sym (more_away heard s i apart))) in
      let long : next s < length (free_items K s (next s)) = subst (λ (k : ℕ). k < length (free_items K s k)) (sym (more_here heard s)) (subst (λ (l : List Item). heard s + 1 < length l) (sym here) (long_push (free_items J s (heard s)) item (heard s + 1) answered)) in
      catching_kept saved started S replies reply P (λ i. free_items J i (heard i)) (λ i. free_items K i (next i)) (λ i. kept_of i C.kept) (awaited S reply K next) K next log C D s n c over sent_so
      (λ i l linked. away i (λ q. true≢false (sym was.inside ∙ ap (is_within S) (sym q) ∙ linked_out started S i l linked)))
      (each (λ i. awaited S reply K next i ≡ kept_of i C.kept ++ given_by s n i) s
      (awaited_one K next s was.inside long ∙ ap (λ (k : ℕ). reply s (map bare (free_items K s k)) ∷ []) (more_here heard s) ∙ sym (ap (λ (l : List Message). l ++ given_by s n s) was.none ∙ given_here s n))
      (λ i apart. sym (ap (λ (l : List Message). kept_of i C.kept ++ l) (given_away s n i apart) ∙ append_nil (kept_of i C.kept) ∙ was.others i apart ∙ awaited_same J K heard next i (sym (more_away heard s i apart)) (away i apart))))
