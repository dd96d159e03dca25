-- The item that waits first of a simulator was sent: what that keeps of a paced run.
use Rattle.std.proofs.Common.{◌≡◌, inl, inr, ℕ, ◌+◌, ◌<◌, Bool, true, false, ◌&&◌, List, [], ◌∷◌, ◌++◌, length, map, filter, Option, Some, None, is_some, option_and_then, slice_get, unwrap_or, if◌then◌else◌, refl, sym, ap, ◌∙◌, subst, arith, append_assoc, length-append, true≢false, ◌≤◌}
use Rattle.std.specs.List.{cons_option}
use Rattle.mk_base.specs.declared.LinkNo.{LinkNo}
use Rattle.mk_base.specs.Lists.{BeginsWith}
use Rattle.mk_base.proofs.Lists.{append_nil, filter_append, filter_map_append, some_same}
use Rattle.mk_plan.specs.declared.Entry.{Entry}
use Rattle.mk_plan.specs.declared.Item.{Item}
use Rattle.mk_plan.specs.declared.Message.{Message}
use Rattle.mk_plan.specs.declared.Plan.{Plan}
use Rattle.mk_plan.specs.Journals.{bare, got, sent, view}
use Rattle.mk_plan.specs.Plans.{sim_count}
use Rattle.mk_plan.specs.Report.{is_step}
use Rattle.mk_plan.specs.Sequential.{takes_id, id_after}
use Rattle.mk_outside.specs.declared.fleet.LogEntry.{LogEntry}
use Rattle.mk_outside.specs.Logs.{said_on}
use Rattle.mk_local.specs.Replies.{IsItemReplied}
use Rattle.mk_local.specs.Simulators.{Simulator}
use Rattle.mk_run_laws.specs.Crews.{kept_from, kept_of, channel_at}
use Rattle.mk_run_laws.specs.Handshake.{is_within, setup_count, sim_link}
use Rattle.mk_run_laws.specs.Channels.{Channel}
use Rattle.mk_run_laws.specs.Rests.{all_frames}
use Rattle.mk_run_laws.specs.Running.{IsInStep}
use Rattle.mk_run_laws.specs.inner.Running.{HasChannel, awaited}
use Rattle.mk_run_laws.proofs.Saying.{link_there}
use Rattle.mk_run_local.specs.Laws.{RepliesAreKinds}
use Rattle.mk_run_crew.specs.Seen.{CrewSeen, crew_of, is_here}
use Rattle.mk_run_crew.specs.Calls.{SendsAs}
use Rattle.mk_run.specs.inner.Sendings.{CanTake}
use Rattle.mk_run.specs.inner.Underway.{Setting, local_at, put, reply_in}
use Rattle.mk_run.proofs.Going.{here_is_within}
use Rattle.mk_run.proofs.Linked.{linked_outside}
use Rattle.mk_run.proofs.ItemSent.{come_sent, kept_so, no_other_after, not_here_is_outside, only_sent, some_here}
use Rattle.mk_run.proofs.Putting.{put_away, put_here}
use Rattle.mk_run.proofs.SmallIds.{few_sent, small_next}
use Rattle.mk_pace_held.specs.declared.held.Held.{Held}
use Rattle.mk_pace_held.specs.Firsts.{IsChanged}
use Rattle.mk_pace_laws.specs.declared.end.Moment.{Moment}
use Rattle.mk_pace_laws.specs.Moments.{AreMoments, Tempo, moments_of}
use Rattle.mk_pace_laws.specs.Naps.{AreTold, IsTimely}
use Rattle.mk_pace_laws.proofs.Timely.{timely_queued, told_queued}
use Rattle.mk_pace_loop.specs.inner.Pacing.{AreHeldItems, IsHolding, IsOneAtMost, IsPacingBut, held_at, replies_kept}
use Rattle.mk_pace_loop.specs.inner.Waiting.{waiting_seen}
use Rattle.mk_pace_loop.proofs.HeldFirst.{IsFront}
use Rattle.mk_pace_loop.proofs.Queueing.{channel_sent}
use Rattle.mk_base.proofs.Counts.{not_same, same_or_not, same_self}
use Rattle.mk_local.proofs.Replied.{replied_takes}
use Rattle.mk_base.proofs.Bools.{true_or_false}

not_nil : {X : Type 0} {x : X} {xs : List X} → [] ≡ x ∷ xs → ⊥
not_nil e = cc

none_held : (P : Plan) (T : Tempo) (J : List Entry) (s : ℕ) (before : List Item) (q : List Held) → AreHeldItems P T J s before q [] → q ≡ []
none_held P T J s before [] are = refl
none_held P T J s before (h ∷ q) are = absurd are

one_alone : (P : Plan) (J : List Entry) (s : ℕ) (item : Item) (rest : List Item) → IsOneAtMost P J s (item ∷ rest) → (rest ≡ []) × IsItemReplied item × (is_some ((view P J).open_at s) ≡ true)
one_alone P J s item [] one = (refl, one.0, one.1)
one_alone P J s item (other ∷ more) one = absurd one

module _ (S : Setting) (T : Tempo) (strict : Option ℕ) (P : Plan) (J : List Entry) (log : List LogEntry) (C : CrewSeen) (holds : List (List Held)) (moments : List Moment) (s : ℕ) (low : s < sim_count P) (h : Held) (q : List Held) (item : Item) (rest : List Item)
    (p : IsPacingBut s S P J log (crew_of C) C.sims (waiting_seen T strict holds moments)) (f : IsFront P T J s (p.queued s) (p.holding s low).waiting h q item rest) where
  numbered : takes_id item ≡ true → h.id ≡ id_after (setup_count S.scenario s) (p.queued s)
  numbered takes = f.is.id takes ∙ ap (λ (n : ℕ). id_after n (p.queued s)) (p.suits.first s low)

  -- of a simulator within the program nothing else waits
  one : is_within S.scenario s ≡ true → (rest ≡ []) × IsItemReplied item × (is_some ((view P J).open_at s) ≡ true)
  one inside = one_alone P J s item rest (subst (IsOneAtMost P J s) f.waits (p.fit s low inside))

  inside_here : is_here C s ≡ true → is_within S.scenario s ≡ true
  inside_here here = here_is_within S C.sims s p.only_within here

  here_inside : is_within S.scenario s ≡ true → is_here C s ≡ true
  here_inside inside = let t = p.come s inside in some_here (local_at C.sims s) t.0 t.1

  away_outside : is_within S.scenario s ≡ false → is_here C s ≡ false
  away_outside outside = ap (λ (o : Option Simulator). is_some o) (p.only_within s outside)

  right : is_here C s ≡ true → h.id ≡ id_after (setup_count S.scenario s) (p.queued s)
  right here = numbered (replied_takes item (one (inside_here here)).1)

  -- no more items are queued than the journal has entries
  few_queued : length (p.queued s) ≤ length J + 1
  few_queued =
      let few = few_sent J s in
      let items = ap length f.items in
      let parts = length-append (p.queued s) (item ∷ rest) in
      omega (arith, few, items, parts)

  -- the crew takes it
  pub can_take : CanTake s item h.id C
  can_take = record {
    replied = λ here. (one (inside_here here)).1;
    linked = λ away.
        let t = link_there S.started S.scenario s (subst (λ (n : ℕ). s < n) p.suits.sims low) (not_here_is_outside S p.queued C.sims s p.come away) in
        let g = p.channels s t.0 t.1 in
        (g.channel, g.there, small_next S P J p.suits p.stands s low (p.queued s) few_queued g.channel.next g.in_step.next_id, λ takes. numbered takes ∙ sym g.in_step.next_id);
  }

  module _ (law : RepliesAreKinds) (D : CrewSeen) (so : SendsAs s item h.id C D) (new : List (List Held)) (changed : IsChanged s (h ∷ q) q holds new) where
    abbrev Y : ℕ → List Item
    Y = put p.queued s (p.queued s ++ item ∷ [])

    more : Y s ≡ p.queued s ++ item ∷ []
    more = put_here p.queued s (p.queued s ++ item ∷ [])

    stay : (i : ℕ) → (i ≡ s → ⊥) → Y i ≡ p.queued i
    stay i apart = put_away p.queued s (p.queued s ++ item ∷ []) i apart

    by_place : {Z : Type 0} → (is_here C s ≡ true → Z) → (is_here C s ≡ false → Z) → Z
    by_place within on_link = elim (true_or_false (is_here C s)) [ inl here ↦ within here | inr away ↦ on_link away ]

    -- ---- channels

    channels_stay : (is_here C s ≡ true) → (i : ℕ) → channel_at (crew_of D) i ≡ channel_at (crew_of C) i
    channels_stay here i = ap (λ (l : List (Option Channel)). option_and_then (λ (o : Option Channel). o) (slice_get l i)) (so.within here).kept.channels

    channel_same : (i : ℕ) → (i ≡ s → ⊥) → channel_at (crew_of D) i ≡ channel_at (crew_of C) i
    channel_same i apart = by_place (λ here. channels_stay here i) (λ away. (so.on_link away).0.others i apart)

    channel_else : (i : ℕ) (l : LinkNo) → sim_link S.started S.scenario i ≡ Some l → (i ≡ s → ⊥) → HasChannel S.scenario S.replies log i l (got J i) (Y i) (crew_of D)
    channel_else i l linked apart = let g = p.channels i l linked in record {
      channel = g.channel;
      there = channel_same i apart ∙ g.there;
      link = g.link;
      in_step = subst (λ (xs : List Item). IsInStep S.scenario S.replies log i (got J i) xs g.channel) (sym (stay i apart)) g.in_step;
    }

    channel_here : (l : LinkNo) → sim_link S.started S.scenario s ≡ Some l → HasChannel S.scenario S.replies log s l (got J s) (Y s) (crew_of D)
    channel_here l linked =
        let away : is_here C s ≡ false = away_outside (linked_outside S.started S.scenario s l linked).0 in
        let g = p.channels s l linked in
        subst (λ (xs : List Item). HasChannel S.scenario S.replies log s l (got J s) xs (crew_of D)) (sym more)
        (channel_sent S.scenario S.replies log (crew_of C) (crew_of D) s l (got J s) (p.queued s) item h.id g (so.on_link away).0
        (λ w there takes. numbered takes ∙ sym g.in_step.next_id ∙ ap (λ (v : Channel). v.next) (some_same (sym g.there ∙ there))))

    channels : (i : ℕ) (l : LinkNo) → sim_link S.started S.scenario i ≡ Some l → HasChannel S.scenario S.replies log i l (got J i) (Y i) (crew_of D)
    channels i l linked = elim (same_or_not i s) [
      | inl e ↦ subst (λ (j : ℕ). (k : LinkNo) → sim_link S.started S.scenario j ≡ Some k → HasChannel S.scenario S.replies log j k (got J j) (Y j) (crew_of D)) (sym e) channel_here l linked
      | inr apart ↦ channel_else i l linked apart
    ]

    no_channel : (i : ℕ) → is_within S.scenario i ≡ true → channel_at (crew_of D) i ≡ None
    no_channel i inside = by_place
        (λ here. channels_stay here i)
        (λ away. (so.on_link away).0.others i (λ e. true≢false (sym inside ∙ ap (is_within S.scenario) e ∙ not_here_is_outside S p.queued C.sims s p.come away)))
        ∙ p.no_channel i inside

    -- ---- replies that are kept

    kept_here : (here : is_here C s ≡ true) → kept_of s D.kept ≡ kept_of s C.kept ++ reply_in S s (map bare (Y s)) ∷ []
    kept_here here =
        let k = kept_so S law p.queued Y s item h.id C D more stay p.come p.only_within right so here in
        ap (kept_of s) k.1.kept ∙ filter_map_append (kept_from s) C.kept (record { sim = s; message = reply_in S s (map bare (Y s)) } ∷ [])
        ∙ ap (λ (b : Bool). kept_of s C.kept ++ cons_option (if b then Some (reply_in S s (map bare (Y s))) else None) []) (same_self s)

    kept_away : (away : is_here C s ≡ false) → D.kept ≡ C.kept
    kept_away away = (so.on_link away).0.kept

    kept_else : (i : ℕ) → (i ≡ s → ⊥) → kept_of i D.kept ≡ kept_of i C.kept
    kept_else i apart = by_place
        (λ here.
        let k = kept_so S law p.queued Y s item h.id C D more stay p.come p.only_within right so here in
        ap (kept_of i) k.1.kept ∙ filter_map_append (kept_from i) C.kept (record { sim = s; message = reply_in S s (map bare (Y s)) } ∷ [])
        ∙ ap (λ (b : Bool). kept_of i C.kept ++ cons_option (if b then Some (reply_in S s (map bare (Y s))) else None) []) (not_same s i (λ e. apart (sym e))) ∙ append_nil (kept_of i C.kept))
        (λ away. ap (kept_of i) (kept_away away))

    -- nothing was kept of it
    none_before : kept_of s C.kept ≡ []
    none_before = p.kept s ∙ ap (λ (o : Option (List Held)). replies_kept S P J s (unwrap_or o [])) changed.there

    kept_inside : is_here C s ≡ true → kept_of s D.kept ≡ replies_kept S P J s q
    kept_inside here =
        let inside : is_within S.scenario s ≡ true = inside_here here in
        let alone = one inside in
        let empty : q ≡ [] = none_held P T J s (p.queued s ++ item ∷ []) q (subst (AreHeldItems P T J s (p.queued s ++ item ∷ []) q) alone.0 f.are) in
        let all : sent J s ≡ Y s = f.items ∙ ap (λ (r : List Item). p.queued s ++ item ∷ r) alone.0 ∙ sym more in
        let waited : awaited S.scenario (reply_in S) P J s ≡ reply_in S s (map bare (Y s)) ∷ [] =
        ap (λ (b : Bool). if b && is_some ((view P J).open_at s) then reply_in S s (map bare (sent J s)) ∷ [] else []) inside
        ∙ ap (λ (b : Bool). if b then reply_in S s (map bare (sent J s)) ∷ [] else []) alone.2 ∙ ap (λ (r : List Item). reply_in S s (map bare r) ∷ []) all in
        kept_here here ∙ ap (λ (l : List Message). l ++ reply_in S s (map bare (Y s)) ∷ []) none_before ∙ sym waited ∙ ap (replies_kept S P J s) (sym empty)

    none_awaited : is_within S.scenario s ≡ false → (r : List Held) → replies_kept S P J s r ≡ []
    none_awaited outside [] = ap (λ (b : Bool). if b && is_some ((view P J).open_at s) then reply_in S s (map bare (sent J s)) ∷ [] else []) outside
    none_awaited outside (g ∷ r) = refl

    kept_outside : is_here C s ≡ false → kept_of s D.kept ≡ replies_kept S P J s q
    kept_outside away = ap (kept_of s) (kept_away away) ∙ none_before ∙ sym (none_awaited (not_here_is_outside S p.queued C.sims s p.come away) q)

    kept : (i : ℕ) → kept_of i D.kept ≡ replies_kept S P J i (held_at new i)
    kept i = elim (same_or_not i s) [
      | inl e ↦ subst (λ (j : ℕ). kept_of j D.kept ≡ replies_kept S P J j (held_at new j)) (sym e)
          (by_place kept_inside kept_outside ∙ ap (λ (o : Option (List Held)). replies_kept S P J s (unwrap_or o [])) (sym changed.here))
      | inr apart ↦ kept_else i apart ∙ p.kept i ∙ ap (λ (o : Option (List Held)). replies_kept S P J i (unwrap_or o [])) (sym (changed.others i apart))
    ]

    -- ---- what is said in time

    said : (l : LinkNo) → sim_link S.started S.scenario s ≡ Some l → BeginsWith (all_frames S.scenario s (p.queued s)) (said_on l log)
    said l linked = let g = p.channels s l linked in (g.channel.unsent, subst (λ (k : LinkNo). all_frames S.scenario s (p.queued s) ≡ said_on k log ++ g.channel.unsent) g.link (sym g.in_step.said))

    timely_here : (l : LinkNo) → sim_link S.started S.scenario s ≡ Some l → IsTimely T S.scenario s l (Y s) log
    timely_here l linked = subst (λ (xs : List Item). IsTimely T S.scenario s l xs log) (sym more) (timely_queued T S.scenario s l (p.queued s) item log (said l linked) (p.timely s l linked))

    timely : (i : ℕ) (l : LinkNo) → sim_link S.started S.scenario i ≡ Some l → IsTimely T S.scenario i l (Y i) log
    timely i l linked = elim (same_or_not i s) [
      | inl e ↦ subst (λ (j : ℕ). (k : LinkNo) → sim_link S.started S.scenario j ≡ Some k → IsTimely T S.scenario j k (Y j) log) (sym e) timely_here l linked
      | inr apart ↦ subst (λ (xs : List Item). IsTimely T S.scenario i l xs log) (sym (stay i apart)) (p.timely i l linked)
    ]

    told : AreTold T log (item ∷ []) → (i : ℕ) → AreTold T log (Y i)
    told it i = elim (same_or_not i s) [
      | inl e ↦ subst (λ (j : ℕ). AreTold T log (Y j)) (sym e) (subst (AreTold T log) (sym more) (told_queued T log (p.queued s) item (p.told s) it))
      | inr apart ↦ subst (AreTold T log) (sym (stay i apart)) (p.told i)
    ]

    -- ---- how many were replied to

    takes_more : is_within S.scenario s ≡ true → length (filter takes_id (Y s)) ≡ length (filter takes_id (p.queued s)) + 1
    takes_more inside = ap (λ (xs : List Item). length (filter takes_id xs)) more ∙ ap (λ (xs : List Item). length xs) (filter_append takes_id (p.queued s) (item ∷ []))
        ∙ length-append (filter takes_id (p.queued s)) (filter takes_id (item ∷ [])) ∙ ap (λ (b : Bool). length (filter takes_id (p.queued s)) + length (if b then item ∷ [] else [])) (replied_takes item (one inside).1)

    replied_here : is_within S.scenario s ≡ true → length (got J s) + length (kept_of s D.kept) ≡ length (filter takes_id (Y s))
    replied_here inside =
        let longer : length (kept_of s D.kept) ≡ length (kept_of s C.kept) + 1 = ap (λ (l : List Message). length l) (kept_here (here_inside inside)) ∙ length-append (kept_of s C.kept) (reply_in S s (map bare (Y s)) ∷ []) in
        let so_far = p.replied s inside in
        let taken = takes_more inside in
        omega (arith, longer, so_far, taken)

    replied : (i : ℕ) → is_within S.scenario i ≡ true → length (got J i) + length (kept_of i D.kept) ≡ length (filter takes_id (Y i))
    replied i inside = elim (same_or_not i s) [
      | inl e ↦ subst (λ (j : ℕ). is_within S.scenario j ≡ true → length (got J j) + length (kept_of j D.kept) ≡ length (filter takes_id (Y j))) (sym e) replied_here inside
      | inr apart ↦ ap (λ (l : List Message). length (got J i) + length l) (kept_else i apart) ∙ p.replied i inside ∙ ap (λ (xs : List Item). length (filter takes_id xs)) (sym (stay i apart))
    ]

    -- ---- what is held

    holding_here : IsHolding P T J new s (Y s)
    holding_here = record {
      held = q;
      there = changed.here;
      waiting = rest;
      items = f.items ∙ sym (append_assoc (p.queued s) (item ∷ []) rest) ∙ ap (λ (xs : List Item). xs ++ rest) (sym more);
      are = subst (λ (xs : List Item). AreHeldItems P T J s xs q rest) (sym more) f.are;
    }

    holding_else : (i : ℕ) → i < sim_count P → (i ≡ s → ⊥) → IsHolding P T J new i (Y i)
    holding_else i below apart = let g = p.holding i below in record {
      held = g.held;
      there = changed.others i apart ∙ g.there;
      waiting = g.waiting;
      items = g.items ∙ ap (λ (xs : List Item). xs ++ g.waiting) (sym (stay i apart));
      are = subst (λ (xs : List Item). AreHeldItems P T J i xs g.held g.waiting) (sym (stay i apart)) g.are;
    }

    -- what is held, and that of a simulator within the program one item is held at most
    abbrev Holds : ℕ → Type 0
    Holds i = (g : IsHolding P T J new i (Y i)) × (is_within S.scenario i ≡ true → IsOneAtMost P J i g.waiting)

    holds_here : Holds s
    unfolding holding_here
    holds_here = (holding_here, λ inside. subst (IsOneAtMost P J s) (sym (one inside).0) tt)

    holds_now : (i : ℕ) → i < sim_count P → Holds i
    unfolding holding_else
    holds_now i below = elim (same_or_not i s) [
      | inl e ↦ subst Holds (sym e) holds_here
      | inr apart ↦ (holding_else i below apart, λ inside. p.fit i below inside)
    ]

    -- where the moments are such, the run goes on
    pub sent_on : (notes : List Moment) → AreMoments T strict J log notes → ((i : ℕ) → i < sim_count P → length (moments_of i notes) ≡ length (filter is_step (Y i))) → AreTold T log (item ∷ []) → IsPacingBut s S P J log (crew_of D) D.sims (waiting_seen T strict new notes)
    sent_on notes are counts it = record {
      suits = p.suits;
      stands = p.stands;
      patient = p.patient;
      in_range = p.in_range;
      no_fault = p.no_fault;
      count = changed.count ∙ p.count;
      queued = Y;
      holding = λ i below. (holds_now i below).0;
      steps = λ i r apart at. p.steps i r apart (sym (changed.others i apart) ∙ at);
      fit = λ i below inside. (holds_now i below).1 inside;
      channels = channels;
      no_channel = no_channel;
      no_other = no_other_after S law p.queued Y s item h.id C D more stay p.come p.only_within right so p.no_other;
      kept = kept;
      kinds = p.kinds;
      come = come_sent S law p.queued Y s item h.id C D more stay p.come p.only_within right so;
      only_within = only_sent S law p.queued Y s item h.id C D more stay p.come p.only_within right so;
      setup_rests = p.setup_rests;
      on_links = p.on_links;
      origin = p.origin;
      told = told it;
      timely = timely;
      moments_are = are;
      counts = counts;
      replied = replied;
      naps = p.naps;
      looks = p.looks;
    }
