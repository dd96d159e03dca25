-- The channels of a paced run: while a clock is read, messages are heard, and items are queued that the
-- journal has had for longer.
use Rattle.std.proofs.Common.{◌≡◌, ℕ, true, List, [], ◌∷◌, ◌++◌, Option, Some, None, refl, sym, ap, ◌∙◌, subst, append_assoc}
use Rattle.mk_base.specs.declared.LinkNo.{LinkNo}
use Rattle.mk_base.proofs.Lists.{some_same}
use Rattle.mk_plan.specs.declared.Item.{Item}
use Rattle.mk_plan.specs.declared.Message.{Message}
use Rattle.mk_plan.specs.Sequential.{Messages, takes_id, id_after}
use Rattle.mk_message.specs.Written.{item_text}
use Rattle.mk_scenario.specs.declared.parts.Scenario.{Scenario}
use Rattle.mk_outside.specs.declared.fleet.LogEntry.{LogEntry}
use Rattle.mk_outside.specs.declared.fleet.LogEntry.TheVariants.{Told, Nap}
use Rattle.mk_run_laws.specs.Crews.{CrewState, AreMoved, IsMovedAt, IsSentOnLink, channel_at}
use Rattle.mk_run_laws.specs.Handshake.{setup_count, setup_payloads}
use Rattle.mk_run_laws.specs.Channels.{IsChannelAt, Channel, queued}
use Rattle.mk_run_laws.specs.Payloads.{item_payloads}
use Rattle.mk_run_laws.specs.inner.Running.{HasChannel}
use Rattle.mk_run_laws.proofs.Moving.{channel_moved, channel_queued, moved_there}
use Rattle.mk_run_laws.proofs.Polling.{IsForeign, channel_left}
use Rattle.mk_run_laws.proofs.Stepping.{items_push, ids_push, text_same}

-- ---- entries of the clock are of no channel

foreign_told : (n : ℕ) (k : LinkNo) → IsForeign k (Told n ∷ [])
foreign_told n k = record { unheard = refl; unsaid = refl; unread = refl; unwritten = refl }

foreign_nap : (k : LinkNo) → IsForeign k (Nap ∷ [])
foreign_nap k = record { unheard = refl; unsaid = refl; unread = refl; unwritten = refl }

left_at : (entries : List LogEntry) → ((k : LinkNo) → IsForeign k entries) → (o : Option Channel) → IsMovedAt entries [] o o
left_at entries foreign None = tt
left_at entries foreign (Some w) = channel_left entries w (foreign w.link)

-- a reading
pub told_moved : (n : ℕ) (C : CrewState) → AreMoved (Told n ∷ []) (λ i. []) C C
told_moved n C i = left_at (Told n ∷ []) (foreign_told n) (channel_at C i)

-- a nap
pub nap_moved : (C : CrewState) → AreMoved (Nap ∷ []) (λ i. []) C C
nap_moved C i = left_at (Nap ∷ []) foreign_nap (channel_at C i)

-- ---- a channel that has moved

-- whatever items were queued on it
pub has_channel_moved : (S : Scenario) (replies : Messages) (log entries : List LogEntry) (i : ℕ) (l : LinkNo) (ms given : List Message) (items : List Item) (C D : CrewState) → HasChannel S replies log i l ms items C → IsMovedAt entries given (channel_at C i) (channel_at D i)
    → HasChannel S replies (log ++ entries) i l (ms ++ given) items D
has_channel_moved S replies log entries i l ms given items C D h moved =
    let m = moved_there entries given (channel_at C i) (channel_at D i) h.channel h.there moved in
    let payloads : List (List ℕ) = setup_payloads S i ++ item_payloads (setup_count S i) items in
    let next : ℕ = id_after (setup_count S i) items in
    record {
      channel = m.0;
      there = m.1;
      link = m.2.link ∙ h.link;
      in_step = subst (λ (x : List Message). IsChannelAt (log ++ entries) x payloads next m.0) (append_assoc (replies i) ms given) (channel_moved log entries (replies i ++ ms) given payloads next h.channel m.0 h.in_step m.2);
    }

-- ---- an item that is queued

-- the channel is in step with any messages and items, and then with one item more
pub channel_sent : (S : Scenario) (replies : Messages) (log : List LogEntry) (C D : CrewState) (s : ℕ) (l : LinkNo) (messages : List Message) (items : List Item) (item : Item) (id : ℕ) → HasChannel S replies log s l messages items C → IsSentOnLink s item id C D
    → ((w : Channel) → channel_at C s ≡ Some w → takes_id item ≡ true → id ≡ w.next) → HasChannel S replies log s l messages (items ++ item ∷ []) D
channel_sent S replies log C D s l messages items item id h sent_so right =
    let same : h.channel ≡ sent_so.channel = some_same (sym h.there ∙ sent_so.there) in
    let n : ℕ = setup_count S s in
    let w : Channel = h.channel in
    let next_is : w.next ≡ id_after n items = h.in_step.next_id in
    let text : item_text id item ≡ item_text (id_after n items) item = text_same item id (id_after n items) (λ takes. right w h.there takes ∙ next_is) in
    let after_is : id_after w.next (item ∷ []) ≡ id_after n (items ++ item ∷ []) = ap (λ (m : ℕ). id_after m (item ∷ [])) next_is ∙ ids_push n items item in
    let new : Channel = queued (item_text id item) (id_after w.next (item ∷ [])) w in
    let at : IsChannelAt log (replies s ++ messages) ((setup_payloads S s ++ item_payloads n items) ++ item_text id item ∷ []) (id_after w.next (item ∷ [])) new =
    channel_queued log (replies s ++ messages) (setup_payloads S s ++ item_payloads n items) (id_after n items) (id_after w.next (item ∷ [])) (item_text id item) w h.in_step sent_so.framed in
    let payloads_are : (setup_payloads S s ++ item_payloads n items) ++ item_text id item ∷ [] ≡ setup_payloads S s ++ item_payloads n (items ++ item ∷ []) =
    append_assoc (setup_payloads S s) (item_payloads n items) (item_text id item ∷ []) ∙ ap (λ (t : List ℕ). setup_payloads S s ++ (item_payloads n items ++ t ∷ [])) text
    ∙ ap (λ (ps : List (List ℕ)). setup_payloads S s ++ ps) (sym (items_push n items item)) in
    record {
      channel = new;
      there = sent_so.here ∙ ap (λ (v : Channel). Some (queued (item_text id item) (id_after v.next (item ∷ [])) v)) (sym same);
      link = h.link;
      in_step = subst (λ (m : ℕ). IsChannelAt log (replies s ++ messages) (setup_payloads S s ++ item_payloads n (items ++ item ∷ [])) m new) after_is
          (subst (λ (ps : List (List ℕ)). IsChannelAt log (replies s ++ messages) ps (id_after w.next (item ∷ [])) new) payloads_are at);
    }
