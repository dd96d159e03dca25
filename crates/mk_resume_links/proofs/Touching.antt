-- Channels and kept replies as a resumed run goes on: an item is queued, a reply is kept, a message
-- is taken.
use Rattle.std.proofs.Common.{◌≡◌, ℕ, ◌+◌, ◌==◌, true, false, List, [], ◌∷◌, ◌++◌, Option, Some, None, option_and_then, slice_get, refl, sym, ap, ◌∙◌, subst, inl, inr, arith, append_assoc, true≢false, if◌then◌else◌}
use Rattle.std.specs.List.{cons_option}
use Rattle.mk_base.specs.declared.LinkNo.{LinkNo}
use Rattle.mk_base.proofs.Lists.{append_nil, some_same, filter_map_append}
use Rattle.mk_plan.specs.declared.Item.{Item}
use Rattle.mk_plan.specs.declared.Message.{Message}
use Rattle.mk_plan.specs.Journals.{Arrival}
use Rattle.mk_plan.specs.Sequential.{Messages, takes_id, id_after}
use Rattle.mk_message.specs.Written.{item_text}
use Rattle.mk_scenario.specs.declared.parts.Scenario.{Scenario}
use Rattle.mk_outside.specs.declared.fleet.LogEntry.{LogEntry}
use Rattle.mk_run_laws.specs.Handshake.{is_within, sim_link, setup_count, setup_payloads}
use Rattle.mk_run_laws.specs.Payloads.{item_payloads}
use Rattle.mk_run_laws.specs.Channels.{Channel, IsChannelAt, queued}
use Rattle.mk_run_laws.specs.Crews.{CrewState, channel_at, kept_from, kept_of, given_by, AreMoved, IsSentOnLink, IsSentWithin}
use Rattle.mk_run_laws.specs.Running.{IsInStep, IsBegun}
use Rattle.mk_run_laws.specs.inner.Running.{HasChannel}
use Rattle.mk_run_laws.proofs.Moving.{channel_moved, channel_queued, moved_there, moved_none}
use Rattle.mk_run_laws.proofs.Stepping.{items_push, ids_push, text_same, linked_out}
use Rattle.mk_resume_links.specs.inner.Touching.{IsInTouch}
use Rattle.mk_base.proofs.Counts.{same_or_not}

-- ---- ids

-- ---- channels that a call moved

-- the first reply that is kept, and those behind it
kept_head : (i s : ℕ) (m : Message) (kept : List Arrival) → kept_of i (record { sim = s; message = m } ∷ kept) ≡ given_by s m i ++ kept_of i kept
kept_head i s m kept = elim (s == i) as (λ b. cons_option (if b then Some m else None) (kept_of i kept) ≡ (if b then m ∷ [] else []) ++ kept_of i kept) [ true ↦ refl | false ↦ refl ]

kept_last : (i s : ℕ) (m : Message) (kept : List Arrival) → kept_of i (kept ++ record { sim = s; message = m } ∷ []) ≡ kept_of i kept ++ given_by s m i
kept_last i s m kept = filter_map_append (kept_from i) kept (record { sim = s; message = m } ∷ []) ∙ ap (λ (l : List Message). kept_of i kept ++ l) (kept_head i s m [] ∙ append_nil (given_by s m i))

channel_in : List (Option Channel) → ℕ → Option Channel
channel_in l i = option_and_then (λ (o : Option Channel). o) (slice_get l i)

same_channel : (C D : CrewState) (i : ℕ) → D.channels ≡ C.channels → channel_at D i ≡ channel_at C i
same_channel C D i e = ap (λ (l : List (Option Channel)). option_and_then (λ (o : Option Channel). o) (slice_get l i)) e

module _ (started : ℕ) (S : Scenario) (replies : Messages) where
  -- one channel, by other names of its messages and items
  channel_as : (log : List LogEntry) (i : ℕ) (l : LinkNo) (ms ns : List Message) (xs ys : List Item) (C D : CrewState) → ms ≡ ns → xs ≡ ys → channel_at D i ≡ channel_at C i → HasChannel S replies log i l ms xs C → HasChannel S replies log i l ns ys D
  channel_as log i l ms ns xs ys C D m x same h = record {
    channel = h.channel;
    there = same ∙ h.there;
    link = h.link;
    in_step = subst (λ (zs : List Item). IsInStep S replies log i ns zs h.channel) x (subst (λ (ks : List Message). IsInStep S replies log i ks xs h.channel) m h.in_step);
  }

  -- the same, by other names of what was given, queued and kept
  pub seen_as : (M N : ℕ → List Message) (X Y : ℕ → List Item) (A B : ℕ → List Message) (log : List LogEntry) (C : CrewState) → IsInTouch M X A started S replies log C
      → ((i : ℕ) (l : LinkNo) → sim_link started S i ≡ Some l → M i ≡ N i) → ((i : ℕ) (l : LinkNo) → sim_link started S i ≡ Some l → X i ≡ Y i) → ((i : ℕ) → A i ≡ B i) → IsInTouch N Y B started S replies log C
  seen_as M N X Y A B log C touch messages items awaits = record {
    channels = λ i l linked. channel_as log i l (M i) (N i) (X i) (Y i) C C (messages i l linked) (items i l linked) refl (touch.channels i l linked);
    no_channel = touch.no_channel;
    kept = λ i. touch.kept i ∙ awaits i;
  }

  -- an item is queued on a channel: it stands behind the others
  pub queued_on_link : (M : ℕ → List Message) (X Y : ℕ → List Item) (A : ℕ → List Message) (log : List LogEntry) (C D : CrewState) (s : ℕ) (item : Item) (id : ℕ) (l : LinkNo) → IsInTouch M X A started S replies log C
      → sim_link started S s ≡ Some l → IsSentOnLink s item id C D → ((w : Channel) → channel_at C s ≡ Some w → takes_id item ≡ true → id ≡ w.next)
      → Y s ≡ X s ++ item ∷ [] → ((i : ℕ) → (i ≡ s → ⊥) → Y i ≡ X i) → IsInTouch M Y A started S replies log D
  queued_on_link M X Y A log C D s item id l touch linked sent_so right more others = record {
    channels = λ i k e. elim (same_or_not i s) [
      | inl q ↦ subst (λ (j : ℕ). (k : LinkNo) → sim_link started S j ≡ Some k → HasChannel S replies log j k (M j) (Y j) D) (sym q) here k e
      | inr apart ↦ channel_as log i k (M i) (M i) (X i) (Y i) C D refl (sym (others i apart)) (sent_so.others i apart) (touch.channels i k e)
    ];
    no_channel = λ i h. sent_so.others i (λ q. true≢false (sym h ∙ ap (is_within S) q ∙ linked_out started S s l linked)) ∙ touch.no_channel i h;
    kept = λ i. ap (kept_of i) sent_so.kept ∙ touch.kept i;
  }
    where
      here : (k : LinkNo) → sim_link started S s ≡ Some k → HasChannel S replies log s k (M s) (Y s) D
      here k e =
          let h = touch.channels s k e in
          let same : h.channel ≡ sent_so.channel = some_same (sym h.there ∙ sent_so.there) in
          let n : ℕ = setup_count S s in
          let w : Channel = h.channel in
          let next_is : w.next ≡ id_after n (X s) = h.in_step.next_id in
          let text : item_text id item ≡ item_text (id_after n (X s)) item = text_same item id (id_after n (X s)) (λ takes. right w h.there takes ∙ next_is) in
          let after_is : id_after w.next (item ∷ []) ≡ id_after n (X s ++ item ∷ []) = ap (λ (m : ℕ). id_after m (item ∷ [])) next_is ∙ ids_push n (X s) item in
          let at : IsChannelAt log (replies s ++ M s) ((setup_payloads S s ++ item_payloads n (X s)) ++ item_text id item ∷ []) (id_after w.next (item ∷ [])) (queued (item_text id item) (id_after w.next (item ∷ [])) w) =
          channel_queued log (replies s ++ M s) (setup_payloads S s ++ item_payloads n (X s)) (id_after n (X s)) (id_after w.next (item ∷ [])) (item_text id item) w h.in_step sent_so.framed in
          let payloads_are : (setup_payloads S s ++ item_payloads n (X s)) ++ item_text id item ∷ [] ≡ setup_payloads S s ++ item_payloads n (X s ++ item ∷ []) =
          append_assoc (setup_payloads S s) (item_payloads n (X s)) (item_text id item ∷ []) ∙ ap (λ (t : List ℕ). setup_payloads S s ++ (item_payloads n (X s) ++ t ∷ [])) text
          ∙ ap (λ (ps : List (List ℕ)). setup_payloads S s ++ ps) (sym (items_push n (X s) item)) in
          let new : Channel = queued (item_text id item) (id_after w.next (item ∷ [])) w in
          let step : IsInStep S replies log s (M s) (X s ++ item ∷ []) new =
          subst (λ (m : ℕ). IsChannelAt log (replies s ++ M s) (setup_payloads S s ++ item_payloads n (X s ++ item ∷ [])) m new) after_is
          (subst (λ (ps : List (List ℕ)). IsChannelAt log (replies s ++ M s) ps (id_after w.next (item ∷ [])) new) payloads_are at) in
          record {
            channel = new;
            there = sent_so.here ∙ ap (λ (v : Channel). Some (queued (item_text id item) (id_after v.next (item ∷ [])) v)) (sym same);
            link = h.link;
            in_step = subst (λ (xs : List Item). IsInStep S replies log s (M s) xs new) (sym more) step;
          }

  -- a simulator within the program replies to an item: its reply is kept behind the others
  pub kept_within : (M : ℕ → List Message) (X Y : ℕ → List Item) (A B : ℕ → List Message) (log : List LogEntry) (C D : CrewState) (s : ℕ) (m : Message) → IsInTouch M X A started S replies log C
      → IsSentWithin s m C D → ((i : ℕ) (l : LinkNo) → sim_link started S i ≡ Some l → X i ≡ Y i) → ((i : ℕ) → B i ≡ A i ++ given_by s m i) → IsInTouch M Y B started S replies log D
  kept_within M X Y A B log C D s m touch sent_so items awaits = record {
    channels = λ i l linked. channel_as log i l (M i) (M i) (X i) (Y i) C D refl (items i l linked) (same_channel C D i sent_so.channels) (touch.channels i l linked);
    no_channel = λ i h. same_channel C D i sent_so.channels ∙ touch.no_channel i h;
    kept = λ i. ap (kept_of i) sent_so.kept ∙ kept_last i s m C.kept ∙ ap (λ (l : List Message). l ++ given_by s m i) (touch.kept i) ∙ sym (awaits i);
  }

  -- the first of the kept replies is taken
  pub taken_kept : (M : ℕ → List Message) (X : ℕ → List Item) (A : ℕ → List Message) (log entries : List LogEntry) (C D : CrewState) (s : ℕ) (m : Message) → IsInTouch M X A started S replies log C
      → C.kept ≡ record { sim = s; message = m } ∷ D.kept → D.channels ≡ C.channels → entries ≡ [] → IsInTouch M X (λ i. kept_of i D.kept) started S replies (log ++ entries) D × ((i : ℕ) → A i ≡ given_by s m i ++ kept_of i D.kept)
  taken_kept M X A log entries C D s m touch is channels none = (
    subst (λ (g : List LogEntry). IsInTouch M X (λ i. kept_of i D.kept) started S replies g D) (sym (ap (λ (e : List LogEntry). log ++ e) none ∙ append_nil log)) (record {
      channels = λ i l linked. channel_as log i l (M i) (M i) (X i) (X i) C D refl refl (same_channel C D i channels) (touch.channels i l linked);
      no_channel = λ i h. same_channel C D i channels ∙ touch.no_channel i h;
      kept = λ i. refl;
    }),
    (λ i. sym (touch.kept i) ∙ ap (kept_of i) is ∙ kept_head i s m D.kept),
  )

  -- messages are taken off the channels
  pub taken_off : (M : ℕ → List Message) (X : ℕ → List Item) (A : ℕ → List Message) (log entries : List LogEntry) (C D : CrewState) (given : ℕ → List Message) → IsInTouch M X A started S replies log C
      → AreMoved entries given C D → D.kept ≡ C.kept → IsInTouch (λ i. M i ++ given i) X A started S replies (log ++ entries) D
  taken_off M X A log entries C D given touch moved kept = record {
    channels = λ i l linked.
        let h = touch.channels i l linked in
        let t = moved_there entries (given i) (channel_at C i) (channel_at D i) h.channel h.there (moved i) in
        record {
          channel = t.0;
          there = t.1;
          link = t.2.link ∙ h.link;
          in_step = subst (λ (ms : List Message). IsChannelAt (log ++ entries) ms (setup_payloads S i ++ item_payloads (setup_count S i) (X i)) (id_after (setup_count S i) (X i)) t.0) (append_assoc (replies i) (M i) (given i))
              (channel_moved log entries (replies i ++ M i) (given i) (setup_payloads S i ++ item_payloads (setup_count S i) (X i)) (id_after (setup_count S i) (X i)) h.channel t.0 h.in_step t.2);
        };
    no_channel = λ i h. moved_none entries (given i) (channel_at C i) (channel_at D i) (touch.no_channel i h) (moved i);
    kept = λ i. ap (kept_of i) kept ∙ touch.kept i;
  }

  -- when the handshake is over, nothing was given or queued behind it
  pub begun : (log : List LogEntry) (C : CrewState) → IsBegun started S replies log C → IsInTouch (λ i. []) (λ i. []) (λ i. []) started S replies log C
  begun log C b = record {
    channels = λ i l linked. let t = b.channels i l linked in record {
      channel = t.0;
      there = t.1;
      link = t.2;
      in_step = subst (λ (ms : List Message). IsChannelAt log ms (setup_payloads S i ++ []) (setup_count S i + 0) t.0) (sym (append_nil (replies i)))
          (subst (λ (ps : List (List ℕ)). IsChannelAt log (replies i) ps (setup_count S i + 0) t.0) (sym (append_nil (setup_payloads S i)))
          (subst (λ (n : ℕ). IsChannelAt log (replies i) (setup_payloads S i) n t.0) (let e : setup_count S i ≡ setup_count S i + 0 = omega arith in e) t.3));
    };
    no_channel = b.no_channel;
    kept = λ i. ap (kept_of i) b.none_kept;
  }
