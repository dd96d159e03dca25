-- The handshake, request by request.
use Rattle.std.proofs.Common.{◌≡◌, ℕ, zero, suc, ◌+◌, Bool, false, List, [], ◌∷◌, ◌++◌, length, take, drop, map, filter_map, fold, Option, Some, None, slice_get, slice_set, option_map, option_and_then, refl, sym, ap, ◌∙◌, subst, ◌⊎◌, inl, inr, true≢false, if◌then◌else◌, true}
use Rattle.mk_base.specs.declared.LinkNo.{LinkNo}
use Rattle.mk_base.proofs.Lists.{none_some, some_same, append_nil, set_here, set_else}
use Rattle.mk_plan.specs.declared.Message.{Message}
use Rattle.mk_plan.specs.Sequential.{Messages}
use Rattle.mk_message.specs.Written.{call_text}
use Rattle.mk_outside.specs.declared.fleet.LogEntry.{LogEntry}
use Rattle.mk_scenario.specs.declared.parts.Scenario.{Scenario}
use Rattle.mk_local.specs.declared.turn.Turn.{Turn}
use Rattle.mk_local.specs.Calls.{after_call, call_reply}
use Rattle.mk_local.specs.Simulators.{Simulator}
use Rattle.mk_run_laws.specs.Payloads.{IsFramed}
use Rattle.mk_run_laws.specs.Channels.{Channel, queued}
use Rattle.mk_run_laws.specs.Crews.{CrewState, AreMoved, AreParkedAtRests, IsHeard, on_link, given_by}
use Rattle.mk_run_laws.specs.Handshake.{Request, setup_requests, call_to, sim_link, is_within}
use Rattle.mk_run_laws.specs.inner.Running.{IsBetween, IsSettingUp}
use Rattle.mk_run_laws.proofs.Greeting.{fresh, requested, requested_within, replied}
use Rattle.mk_run_laws.proofs.Moving.{moved_back}
use Rattle.mk_setup.specs.Requests.{id_before}
use Rattle.mk_run_links.specs.Entries.{AreOn, IsRunLink}
use Rattle.mk_run_links.proofs.OnEntries.{on_more, on_run}
use Rattle.mk_run_links.proofs.Beginning.{channel_was}
use Rattle.mk_run_links.specs.Places.{IsChannelLink, Channels, IsSet, at, crew}
use Rattle.mk_run_local.specs.Made.{first_at}
use Rattle.mk_run_local.specs.Seen.{WithinState, AreOf, first_of, new_within, sim_at}
use Rattle.mk_run_crew.specs.Answers.{answers_to, sim_after}
use Rattle.mk_run_crew.specs.inner.Asking.{AsksWithin, AsksOnLink, IsAnswered, IsNewCrew}
use Rattle.mk_run_crew.specs.Seen.{CrewSeen, within_of}
use Rattle.mk_run_crew.proofs.Placing.{new_at, set_there}
use Rattle.mk_run_crew.proofs.Requests.{answers_none, answers_pushed, after_one_more, after_other, count_pushed, cut_at, kinds_pushed, still_none}
use Rattle.mk_run_crew.proofs.Simulators.{link_placed, linked_away, placed_link, within_away}
use Rattle.mk_base.proofs.Counts.{not_same, same_or_not}
use Rattle.mk_run_links.proofs.Standing.{set_back}

-- ---- before the first request

nothing_called : (o : Option Simulator) → o ≡ option_map (λ (L : Simulator). fold after_call L []) o
nothing_called None = refl
nothing_called (Some L) = refl

first_in : (rows : List Turn) (S : Scenario) (i : ℕ) → sim_at (new_within rows S) i ≡ first_at rows S i
first_in rows S i = go S.sims i
  where
    go : (sims : List _) (k : ℕ) → option_and_then (λ (o : Option Simulator). o) (slice_get (map (first_of rows) sims) k) ≡ option_and_then (first_of rows) (slice_get sims k)
    go [] k = refl
    go (s ∷ sims) zero = refl
    go (s ∷ sims) (suc k) = go sims k

module _ (started : ℕ) (S : Scenario) (rows : List Turn) where
  pub none_answered : (open_links : List LinkNo) (C : CrewSeen) → IsNewCrew started rows S open_links C → IsAnswered started S rows [] [] C
  none_answered open_links C n = record {
    replies = λ i. [];
    between = fresh started S (crew C.channels) (λ i l e. ap (λ (L : Channels). at L i) n.channels ∙ new_at C.places i l (ap (λ (ps : List (Option LinkNo)). slice_get ps i) n.places ∙ link_placed started S i l e));
    told = λ i l e. sym (answers_none i (setup_requests S));
    kinds = λ k r m asked got within. absurd (none_some got);
    sims = λ i. ap (λ (W : WithinState). sim_at W i) n.within ∙ first_in rows S i ∙ nothing_called (first_at rows S i);
    known = n.known;
    back = λ i w e. (w.link, placed_link started S i w.link (ap (λ (ps : List (Option LinkNo)). slice_get ps i) (sym n.places) ∙ channel_was C.places i w (ap (λ (L : Channels). at L i) (sym n.channels) ∙ e)));
    kept = ap (λ (W : WithinState). W.kept) n.within;
    halt = n.halt;
    places = n.places;
    on_links = tt;
  }

  -- ---- one request

  -- the requests so far, and the next
  pub next_between : (replies : Messages) (log : List LogEntry) (C : CrewState) (k : ℕ) (r : Request) → slice_get (setup_requests S) k ≡ Some r → IsBetween started S replies log C (take k (setup_requests S)) (drop k (setup_requests S))
      → IsBetween started S replies log C (take k (setup_requests S)) (r ∷ drop (suc k) (setup_requests S))
  next_between replies log C k r e b = subst (λ (rs : List Request). IsBetween started S replies log C (take k (setup_requests S)) rs) (cut_at k r (setup_requests S) e).1 b

  -- and behind the next
  pub after_next : (replies : Messages) (log : List LogEntry) (C : CrewState) (answers : List Message) (m : Message) (r : Request) → slice_get (setup_requests S) (length answers) ≡ Some r
      → IsBetween started S replies log C (take (length answers) (setup_requests S) ++ r ∷ []) (drop (suc (length answers)) (setup_requests S))
      → IsBetween started S replies log C (take (length (answers ++ m ∷ [])) (setup_requests S)) (drop (length (answers ++ m ∷ [])) (setup_requests S))
  after_next replies log C answers m r e b = subst (λ (n : ℕ). IsBetween started S replies log C (take n (setup_requests S)) (drop n (setup_requests S))) (sym (count_pushed answers m))
      (subst (λ (rs : List Request). IsBetween started S replies log C rs (drop (suc (length answers)) (setup_requests S))) (sym (cut_at (length answers) r (setup_requests S) e).0) b)

  place_of_sim : (sims : List (Option Simulator)) (i : ℕ) (L : Simulator) → option_and_then (λ (o : Option Simulator). o) (slice_get sims i) ≡ Some L → slice_get sims i ≡ Some (Some L)
  place_of_sim sims i L e = go (slice_get sims i) e
    where
      go : (o : Option (Option Simulator)) → option_and_then (λ (p : Option Simulator). p) o ≡ Some L → o ≡ Some (Some L)
      go None e = absurd (none_some e)
      go (Some p) e = ap Some e

  -- a simulator that has come on by its calls is within the program
  pub within_so : (k i : ℕ) (L : Simulator) → sim_after rows S k i ≡ Some L → is_within S i ≡ true
  within_so k i L is = go (first_at rows S i) refl is
    where
      go : (o : Option Simulator) → first_at rows S i ≡ o → option_map (λ (M : Simulator). fold after_call M (filter_map (call_to i) (take k (setup_requests S)))) o ≡ Some L → is_within S i ≡ true
      go None e t = absurd (none_some t)
      go (Some M) e t = (within_away rows started S i M e).1

  -- a simulator within the program has answered
  pub within_more : (log entries : List LogEntry) (answers : List Message) (C D : CrewSeen) (r : Request) (id from : ℕ) (m : Message) → IsAnswered started S rows log answers C → slice_get (setup_requests S) (length answers) ≡ Some r
      → id ≡ id_before S (length answers) r.sim → AsksWithin r.sim r.call id from m entries C D → D.places ≡ C.places → IsAnswered started S rows (log ++ entries) (answers ++ m ∷ []) D
  within_more log entries answers C D r id from m so_far asked numbered a same_places = record {
    replies = so_far.replies;
    between = after_next so_far.replies (log ++ entries) (crew D.channels) answers m r asked
        (subst (λ (L : Channels). IsBetween started S so_far.replies (log ++ entries) (crew L) done (drop (suc (length answers)) (setup_requests S))) (sym a.channels)
        (subst (λ (x : List LogEntry). IsBetween started S so_far.replies x (crew C.channels) done (drop (suc (length answers)) (setup_requests S))) (sym (ap (λ (x : List LogEntry). log ++ x) a.quiet ∙ append_nil log))
        (requested_within started S so_far.replies log (crew C.channels) (take (length answers) (setup_requests S)) r (drop (suc (length answers)) (setup_requests S)) (next_between so_far.replies log (crew C.channels) (length answers) r asked so_far.between) unlinked)));
    told = λ i l e. so_far.told i l e ∙ sym (append_nil (answers_to i (setup_requests S) answers))
        ∙ ap (λ (ms : List Message). answers_to i (setup_requests S) answers ++ ms) (sym (ap (λ (b : Bool). if b then m ∷ [] else []) (not_same r.sim i (λ q. none_some (sym unlinked ∙ ap (sim_link started S) q ∙ e)))))
        ∙ sym (answers_pushed i (setup_requests S) answers r m asked);
    kinds = kinds_pushed rows S answers r m so_far.kinds asked (λ w. record { sim = (a.called).sim; before = before_it; reply = subst (λ (n : ℕ). call_reply (a.called).sim n r.call ≡ Some m) numbered (a.called).reply });
    sims = λ i. come i (same_or_not i r.sim);
    known = a.known rows so_far.known;
    back = λ i w e. so_far.back i w (ap (λ (L : Channels). at L i) (sym a.channels) ∙ e);
    kept = ap (λ (W : WithinState). W.kept) (a.called).moved ∙ so_far.kept;
    halt = a.halt ∙ so_far.halt;
    places = same_places ∙ so_far.places;
    on_links = subst (AreOn (IsRunLink started S)) (sym (ap (λ (x : List LogEntry). log ++ x) a.quiet ∙ append_nil log)) so_far.on_links;
  }
    where
      done : List Request
      done = take (length answers) (setup_requests S) ++ r ∷ []

      before_it : sim_after rows S (length answers) r.sim ≡ Some (a.called).sim
      before_it = sym (so_far.sims r.sim) ∙ (a.called).there

      -- the simulator has no link
      unlinked : sim_link started S r.sim ≡ None
      unlinked = go (first_at rows S r.sim) refl before_it
        where
          go : (o : Option Simulator) → first_at rows S r.sim ≡ o → option_map (λ (L : Simulator). fold after_call L (filter_map (call_to r.sim) (take (length answers) (setup_requests S)))) o ≡ Some (a.called).sim → sim_link started S r.sim ≡ None
          go None e t = absurd (none_some t)
          go (Some L) e t = (within_away rows started S r.sim L e).0

      come : (i : ℕ) → (i ≡ r.sim) ⊎ (i ≡ r.sim → ⊥) → sim_at (within_of D) i ≡ sim_after rows S (length (answers ++ m ∷ [])) i
      come i (inl q) = ap (λ (W : WithinState). sim_at W i) (a.called).moved
          ∙ ap (λ (k : ℕ). option_and_then (λ (o : Option Simulator). o) (slice_get (slice_set C.sims r.sim (Some (after_call (a.called).sim r.call))) k)) q
          ∙ ap (option_and_then (λ (o : Option Simulator). o)) (set_here C.sims r.sim (Some (after_call (a.called).sim r.call)) (Some (a.called).sim) (place_of_sim C.sims r.sim (a.called).sim (a.called).there))
          ∙ sym (after_one_more rows S (length answers) r (a.called).sim asked before_it) ∙ ap (λ (n : ℕ). sim_after rows S n r.sim) (sym (count_pushed answers m)) ∙ ap (sim_after rows S (length (answers ++ m ∷ []))) (sym q)
      come i (inr apart) = ap (λ (W : WithinState). sim_at W i) (a.called).moved ∙ ap (option_and_then (λ (o : Option Simulator). o)) (set_else C.sims r.sim i (Some (after_call (a.called).sim r.call)) apart)
          ∙ so_far.sims i ∙ sym (after_other rows S (length answers) r i asked apart) ∙ ap (λ (n : ℕ). sim_after rows S n i) (sym (count_pushed answers m))

  -- ---- a request on a link

  pub heard_moved : (entries : List LogEntry) (i : ℕ) (m : Message) (L M : Channels) → IsHeard entries i m (crew L) (crew M) → AreMoved entries (given_by i m) (crew L) (crew M) × AreParkedAtRests entries (crew L)
  heard_moved entries i m L M (IsHeard.kept k same none) = absurd (no_front k)
    where
      no_front : {X : Type 0} {x : X} {xs : List X} → [] ≡ x ∷ xs → ⊥
      no_front e = cc
  heard_moved entries i m L M (on_link k l w there moved parked) = (moved, parked)

  -- what was heard came on a channel
  pub heard_there : (entries : List LogEntry) (i : ℕ) (m : Message) (L M : Channels) → IsHeard entries i m (crew L) (crew M) → (w : Channel) × (at L i ≡ Some w)
  heard_there entries i m L M (IsHeard.kept k same none) = absurd (no_front k)
    where
      no_front : {X : Type 0} {x : X} {xs : List X} → [] ≡ x ∷ xs → ⊥
      no_front e = cc
  heard_there entries i m L M (on_link k l w there moved parked) = (w, there)

  -- entries on the channels' links, once a request was queued, are on the run's
  pub asked_on : (log entries : List LogEntry) (replies : Messages) (done later : List Request) (C : CrewSeen) (M : Channels) (s : ℕ) (w v : Channel) → AreOn (IsRunLink started S) log → IsBetween started S replies log (crew C.channels) done later
      → ((i : ℕ) (u : Channel) → at C.channels i ≡ Some u → (l : LinkNo) × (sim_link started S i ≡ Some l)) → IsSet s w v C.channels M → v.link ≡ w.link → AreOn (IsChannelLink M) entries → AreOn (IsRunLink started S) (log ++ entries)
  asked_on log entries replies done later C M s w v before between back set same more = on_more (IsRunLink started S) log entries before (on_run started S M entries
      (λ i l q. let t = between.channels i l q in let x = set_there s w v C.channels M set same i t.0 t.1 in (x.0, x.1, x.2 ∙ t.2))
      (λ i u e. let b = set_back s w v C.channels M set same i u e in back i b.0 b.1) more)

  -- the request was queued
  pub set_up_so : (replies : Messages) (log : List LogEntry) (answers : List Message) (L M : Channels) (r : Request) (id : ℕ) (l : LinkNo) (w : Channel)
      → IsBetween started S replies log (crew L) (take (length answers) (setup_requests S)) (drop (length answers) (setup_requests S))
      → slice_get (setup_requests S) (length answers) ≡ Some r → id ≡ id_before S (length answers) r.sim → sim_link started S r.sim ≡ Some l → IsSet r.sim w (queued (call_text id r.call) (id + 1) w) L M → IsFramed (call_text id r.call)
      → IsSettingUp started S replies log (crew M) (take (length answers) (setup_requests S)) r (drop (suc (length answers)) (setup_requests S))
  set_up_so replies log answers L M r id l w b asked numbered linked set one =
      requested started S replies log (crew L) (crew M) (take (length answers) (setup_requests S)) r (drop (suc (length answers)) (setup_requests S)) l (next_between replies log (crew L) (length answers) r asked b) linked
      (λ v there. (set.here ∙ ap (λ (n : ℕ). Some (queued (call_text n r.call) (n + 1) w)) (number v there) ∙ ap (λ (x : Channel). Some (queued (call_text v.next r.call) (v.next + 1) x)) (some_same (sym set.there ∙ there)), subst (λ (n : ℕ). IsFramed (call_text n r.call)) (number v there) one)) set.others
    where
      number : (v : Channel) → at L r.sim ≡ Some v → id ≡ v.next
      number v there = let t = b.channels r.sim l linked in numbered ∙ sym t.3.next_id ∙ ap (λ (x : Channel). x.next) (some_same (sym t.1 ∙ there))

  -- a simulator that has a link has answered
  pub on_link_more : (log entries : List LogEntry) (answers : List Message) (C D : CrewSeen) (r : Request) (id from : ℕ) (l : LinkNo) (m : Message) → IsAnswered started S rows log answers C → slice_get (setup_requests S) (length answers) ≡ Some r
      → id ≡ id_before S (length answers) r.sim → sim_link started S r.sim ≡ Some l → from ≡ r.sim → AsksOnLink r.sim r.call id from m entries C D → D.places ≡ C.places → IsAnswered started S rows (log ++ entries) (answers ++ m ∷ []) D
  on_link_more log entries answers C D r id from l m so_far asked numbered linked own a same_places = record {
    replies = λ i. so_far.replies i ++ given_by r.sim m i;
    between = after_next (λ i. so_far.replies i ++ given_by r.sim m i) (log ++ entries) (crew D.channels) answers m r asked
        (replied started S so_far.replies log entries (crew a.mid) (crew D.channels) (take (length answers) (setup_requests S)) r (drop (suc (length answers)) (setup_requests S)) m
        (set_up_so so_far.replies log answers C.channels a.mid r id l a.channel so_far.between asked numbered linked a.set a.framed) (so_far.between).rests moved.0 moved.1);
    told = λ i k e. ap (λ (ms : List Message). ms ++ given_by r.sim m i) (so_far.told i k e) ∙ sym (answers_pushed i (setup_requests S) answers r m asked);
    kinds = kinds_pushed rows S answers r m so_far.kinds asked (λ w. absurd (true≢false (sym w ∙ away.1)));
    sims = λ i. ap (λ (xs : List (Option Simulator)). option_and_then (λ (o : Option Simulator). o) (slice_get xs i)) a.sims ∙ so_far.sims i ∙ come i (same_or_not i r.sim) ∙ ap (λ (n : ℕ). sim_after rows S n i) (sym (count_pushed answers m));
    known = subst (AreOf rows) (ap (λ (xs : List (Option Simulator)). let W : WithinState = record { sims = xs; kept = C.kept } in W) (sym a.sims) ∙ ap (λ (ks : List _). let W : WithinState = record { sims = D.sims; kept = ks } in W) (sym a.kept)) so_far.known;
    back = λ i w e. let b = moved_back entries (given_by r.sim m i) (at a.mid i) (at D.channels i) w e (moved.0 i) in let c = set_back r.sim a.channel _ C.channels a.mid a.set refl i b.0 b.1 in so_far.back i c.0 c.1;
    kept = a.kept ∙ so_far.kept;
    halt = a.halt;
    places = same_places ∙ so_far.places;
    on_links = asked_on log entries so_far.replies (take (length answers) (setup_requests S)) (drop (length answers) (setup_requests S)) C a.mid r.sim a.channel _ so_far.on_links so_far.between so_far.back a.set refl a.on_links;
  }
    where
      away : (first_at rows S r.sim ≡ None) × (is_within S r.sim ≡ false)
      away = linked_away rows started S r.sim l linked

      moved : AreMoved entries (given_by r.sim m) (crew a.mid) (crew D.channels) × AreParkedAtRests entries (crew a.mid)
      moved = heard_moved entries r.sim m a.mid D.channels (subst (λ (s : ℕ). IsHeard entries s m (crew a.mid) (crew D.channels)) own a.heard)

      come : (i : ℕ) → (i ≡ r.sim) ⊎ (i ≡ r.sim → ⊥) → sim_after rows S (length answers) i ≡ sim_after rows S (suc (length answers)) i
      come i (inl q) = still_none rows S (length answers) (suc (length answers)) i (ap (first_at rows S) q ∙ away.0)
      come i (inr apart) = sym (after_other rows S (length answers) r i asked apart)
