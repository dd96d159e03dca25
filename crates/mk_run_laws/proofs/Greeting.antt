-- The steps of a handshake, from the first request to the last reply.
use Rattle.std.proofs.Common.{◌≡◌, ℕ, ◌+◌, ◌==◌, Bool, true, false, List, [], ◌∷◌, ◌++◌, length, filter_map, Option, Some, None, refl, sym, ap, ◌∙◌, subst, inl, inr, arith, append_assoc, length-append, true≢false, if◌then◌else◌}
use Rattle.std.specs.List.{cons_option}
use Rattle.mk_base.specs.declared.LinkNo.{LinkNo}
use Rattle.mk_base.proofs.Lists.{append_nil, none_some, filter_map_append}
use Rattle.mk_plan.specs.declared.Call.{Call}
use Rattle.mk_plan.specs.declared.Message.{Message}
use Rattle.mk_plan.specs.Sequential.{Messages}
use Rattle.mk_message.specs.Written.{call_text}
use Rattle.mk_scenario.specs.declared.parts.Scenario.{Scenario}
use Rattle.mk_outside.specs.declared.fleet.LogEntry.{LogEntry}
use Rattle.mk_outside.specs.declared.fleet.LogEntry.TheVariants.{Rest}
use Rattle.mk_run_laws.specs.Handshake.{Request, setup_requests, call_to, call_payloads, sim_link, is_within}
use Rattle.mk_run_laws.specs.Hearing.{Takes}
use Rattle.mk_run_laws.specs.Hearing as hearing
use Rattle.mk_run_laws.specs.Channels.{Channel, IsMoved, IsChannelAt, queued}
use Rattle.mk_run_laws.specs.Payloads.{IsFramed}
use Rattle.mk_run_laws.specs.Rests.{AllSetUp, IsWellInSetup}
use Rattle.mk_run_laws.specs.Crews.{CrewState, channel_at, IsMovedAt, given_by, AreMoved, AreParkedAtRests}
use Rattle.mk_run_laws.specs.Running.{IsBegun}
use Rattle.mk_run_laws.specs.inner.Running.{IsSettingUp, IsBetween}
use Rattle.mk_run_laws.proofs.Moving.{channel_moved, channel_queued, moved_there}
use Rattle.mk_run_laws.proofs.Polling.{IsForeign, channel_left}
use Rattle.mk_run_laws.proofs.Stepping.{first_or_second}
use Rattle.mk_run_laws.proofs.SettingUp.{well_in_setup, not_set_up}
use Rattle.mk_base.proofs.Counts.{not_same, same_or_not, same_self}
use Rattle.mk_base.proofs.Items.{not_empty}

-- ---- one channel of a list

-- one channel was moved by entries of its link, and the others are left
pub moved_one : (entries : List LogEntry) (given : List Message) (C D : CrewState) (s : ℕ) (w v : Channel) → channel_at C s ≡ Some w → channel_at D s ≡ Some v → ((i : ℕ) → (i ≡ s → ⊥) → channel_at D i ≡ channel_at C i) → IsMoved entries given w v
    → ((i : ℕ) (u : Channel) → (i ≡ s → ⊥) → channel_at C i ≡ Some u → IsForeign u.link entries) → AreMoved entries (λ i. if s == i then given else []) C D
moved_one entries given C D s w v there now others moved foreign i = elim (same_or_not i s) [
  | inl q ↦ subst (λ (j : ℕ). IsMovedAt entries (if s == j then given else []) (channel_at C j) (channel_at D j)) (sym q)
      (subst (λ (b : Bool). IsMovedAt entries (if b then given else []) (channel_at C s) (channel_at D s)) (sym (same_self s))
      (subst (λ (o : Option Channel). IsMovedAt entries given o (channel_at D s)) (sym there) (subst (λ (o : Option Channel). IsMovedAt entries given (Some w) o) (sym now) moved)))
  | inr apart ↦ subst (λ (b : Bool). IsMovedAt entries (if b then given else []) (channel_at C i) (channel_at D i)) (sym (not_same s i (λ e. apart (sym e))))
      (subst (λ (o : Option Channel). IsMovedAt entries [] (channel_at C i) o) (sym (others i apart)) (still (channel_at C i) refl apart))
]
  where
    still : (o : Option Channel) → channel_at C i ≡ o → (i ≡ s → ⊥) → IsMovedAt entries [] o o
    still None e apart = tt
    still (Some u) e apart = channel_left entries u (foreign i u apart e)

-- ---- requests one after another

calls_push : (i : ℕ) (done : List Request) (r : Request) → filter_map (call_to i) (done ++ r ∷ []) ≡ filter_map (call_to i) done ++ filter_map (call_to i) (r ∷ [])
calls_push i done r = filter_map_append (call_to i) done (r ∷ [])

pub one_here : (r : Request) → filter_map (call_to r.sim) (r ∷ []) ≡ r.call ∷ []
one_here r = ap (λ (b : Bool). cons_option (if b then Some r.call else None) []) (same_self r.sim)

pub one_away : (r : Request) (i : ℕ) → (i ≡ r.sim → ⊥) → filter_map (call_to i) (r ∷ []) ≡ []
one_away r i apart = ap (λ (b : Bool). cons_option (if b then Some r.call else None) []) (not_same r.sim i (λ e. apart (sym e)))

payloads_push : (id : ℕ) (calls : List Call) (c : Call) → call_payloads id (calls ++ c ∷ []) ≡ call_payloads id calls ++ call_text (id + length calls) c ∷ []
payloads_push id [] c = ap (λ (n : ℕ). call_text n c ∷ []) (let e : id ≡ id + 0 = omega arith in e)
payloads_push id (d ∷ calls) c = ap (λ (l : List (List ℕ)). call_text id d ∷ l) (payloads_push (id + 1) calls c ∙ ap (λ (n : ℕ). call_payloads (id + 1) calls ++ call_text n c ∷ []) (let e : (id + 1) + length calls ≡ id + length (d ∷ calls) = omega arith in e))

module _ (started : ℕ) (S : Scenario) where
  -- a request is queued on its channel
  pub requested : (replies : Messages) (log : List LogEntry) (C D : CrewState) (done : List Request) (now : Request) (later : List Request) (l : LinkNo) → IsBetween started S replies log C done (now ∷ later) → sim_link started S now.sim ≡ Some l
      → ((w : Channel) → channel_at C now.sim ≡ Some w → (channel_at D now.sim ≡ Some (queued (call_text w.next now.call) (w.next + 1) w)) × IsFramed (call_text w.next now.call)) → ((i : ℕ) → (i ≡ now.sim → ⊥) → channel_at D i ≡ channel_at C i) → IsSettingUp started S replies log D done now later
  requested replies log C D done now later l b linked here others = record {
    parts = b.parts;
    linked = (l, linked);
    counts = b.counts;
    channels = λ i k e. elim (same_or_not i now.sim) [
      | inl q ↦ subst (λ (j : ℕ). (k : LinkNo) → sim_link started S j ≡ Some k → At j k) (sym q) at_now k e
      | inr apart ↦ let t = b.channels i k e in (
        t.0,
        others i apart ∙ t.1,
        t.2,
        subst (λ (cs : List Call). IsChannelAt log (replies i) (call_payloads 0 cs) (length cs) t.0)
            (sym (calls_push i done now ∙ ap (λ (cs : List Call). filter_map (call_to i) done ++ cs) (one_away now i apart) ∙ append_nil (filter_map (call_to i) done))) t.3,
      )
    ];
  }
    where
      At : ℕ → LinkNo → Type 0
      At i k = (w : Channel) × (channel_at D i ≡ Some w) × (w.link ≡ k) × IsChannelAt log (replies i) (call_payloads 0 (filter_map (call_to i) (done ++ now ∷ []))) (length (filter_map (call_to i) (done ++ now ∷ []))) w

      at_now : (k : LinkNo) → sim_link started S now.sim ≡ Some k → At now.sim k
      at_now k e =
          let t = b.channels now.sim k e in
          let cs : List Call = filter_map (call_to now.sim) done in
          let all : filter_map (call_to now.sim) (done ++ now ∷ []) ≡ cs ++ now.call ∷ [] = calls_push now.sim done now ∙ ap (λ (ds : List Call). cs ++ ds) (one_here now) in
          let at : IsChannelAt log (replies now.sim) (call_payloads 0 cs ++ call_text (t.0).next now.call ∷ []) ((t.0).next + 1) (queued (call_text (t.0).next now.call) ((t.0).next + 1) t.0) =
          channel_queued log (replies now.sim) (call_payloads 0 cs) (length cs) ((t.0).next + 1) (call_text (t.0).next now.call) t.0 t.3 (here t.0 t.1).1 in
          let next : (t.0).next ≡ length cs = t.3.next_id in
          let size : (t.0).next + 1 ≡ length (cs ++ now.call ∷ []) = let e = length-append cs (now.call ∷ []) in omega (arith, e, next) in
          let texts : call_payloads 0 cs ++ call_text (t.0).next now.call ∷ [] ≡ call_payloads 0 (cs ++ now.call ∷ []) =
          ap (λ (n : ℕ). call_payloads 0 cs ++ call_text n now.call ∷ []) (let e : (t.0).next ≡ 0 + length cs = omega (arith, next) in e) ∙ sym (payloads_push 0 cs now.call) in (
            queued (call_text (t.0).next now.call) ((t.0).next + 1) t.0,
            (here t.0 t.1).0,
            t.2,
            subst (λ (ds : List Call). IsChannelAt log (replies now.sim) (call_payloads 0 ds) (length ds) (queued (call_text (t.0).next now.call) ((t.0).next + 1) t.0)) (sym all)
                (subst (λ (n : ℕ). IsChannelAt log (replies now.sim) (call_payloads 0 (cs ++ now.call ∷ [])) n (queued (call_text (t.0).next now.call) ((t.0).next + 1) t.0)) size
                (subst (λ (ps : List (List ℕ)). IsChannelAt log (replies now.sim) ps ((t.0).next + 1) (queued (call_text (t.0).next now.call) ((t.0).next + 1) t.0)) texts at)),
          )

  -- a request to a simulator within the program is answered at once
  pub requested_within : (replies : Messages) (log : List LogEntry) (C : CrewState) (done : List Request) (now : Request) (later : List Request) → IsBetween started S replies log C done (now ∷ later) → sim_link started S now.sim ≡ None
      → IsBetween started S replies log C (done ++ now ∷ []) later
  requested_within replies log C done now later b none = record {
    parts = b.parts ∙ sym (append_assoc done (now ∷ []) later);
    counts = λ i l e. b.counts i l e ∙ ap length (sym (same i l e));
    channels = λ i l e. let t = b.channels i l e in (t.0, t.1, t.2, subst (λ (cs : List Call). IsChannelAt log (replies i) (call_payloads 0 cs) (length cs) t.0) (sym (same i l e)) t.3);
    rests = b.rests;
  }
    where
      same : (i : ℕ) (l : LinkNo) → sim_link started S i ≡ Some l → filter_map (call_to i) (done ++ now ∷ []) ≡ filter_map (call_to i) done
      same i l e = calls_push i done now ∙ ap (λ (cs : List Call). filter_map (call_to i) done ++ cs) (one_away now i (λ q. none_some (sym none ∙ ap (sim_link started S) (sym q) ∙ e))) ∙ append_nil (filter_map (call_to i) done)

  -- its reply was heard
  pub replied : (replies : Messages) (log entries : List LogEntry) (C D : CrewState) (done : List Request) (now : Request) (later : List Request) (m : Message) → IsSettingUp started S replies log C done now later
      → ((before after : List LogEntry) → log ≡ before ++ Rest ∷ after → IsWellInSetup started S before × (AllSetUp started S before → ⊥))
      → AreMoved entries (given_by now.sim m) C D → AreParkedAtRests entries C → IsBetween started S (λ i. replies i ++ given_by now.sim m i) (log ++ entries) D (done ++ now ∷ []) later
  replied replies log entries C D done now later m up rests moved parked = record {
    parts = up.parts ∙ sym (append_assoc done (now ∷ []) later);
    counts = λ i l e. length-append (replies i) (given_by now.sim m i) ∙ ap (λ (n : ℕ). n + length (given_by now.sim m i)) (up.counts i l e) ∙ more i ∙ sym (ap length (calls_push i done now) ∙ length-append (filter_map (call_to i) done) (filter_map (call_to i) (now ∷ [])));
    channels = λ i l e. let t = up.channels i l e in let v = moved_there entries (given_by now.sim m i) (channel_at C i) (channel_at D i) t.0 t.1 (moved i) in
        (v.0, v.1, v.2.link ∙ t.2, channel_moved log entries (replies i) (given_by now.sim m i) (call_payloads 0 (filter_map (call_to i) (done ++ now ∷ []))) (length (filter_map (call_to i) (done ++ now ∷ []))) t.0 v.0 t.3 v.2);
    rests = λ before after is. elim (first_or_second log entries before after Rest is) [
      | inl t ↦ rests before t.0 t.1
      | inr t ↦ subst (λ (b : List LogEntry). IsWellInSetup started S b × (AllSetUp started S b → ⊥)) (sym t.1)
          (well_in_setup started S replies log entries C done now later up parked t.0 after t.2, not_set_up started S replies log entries C done now later up parked t.0 after t.2)
    ];
  }
    where
      more : (i : ℕ) → length (filter_map (call_to i) done) + length (given_by now.sim m i) ≡ length (filter_map (call_to i) done) + length (filter_map (call_to i) (now ∷ []))
      more i = elim (now.sim == i) as (λ b. length (filter_map (call_to i) done) + length (if b then m ∷ [] else []) ≡ length (filter_map (call_to i) done) + length (cons_option (if b then Some now.call else None) [])) [ true ↦ refl | false ↦ refl ]

  -- after the last reply the run begins
  pub greeted : (replies : Messages) (log : List LogEntry) (C : CrewState) (done : List Request) → IsBetween started S replies log C done [] → ((i : ℕ) → is_within S i ≡ true → channel_at C i ≡ None) → C.kept ≡ [] → IsBegun started S replies log C
  greeted replies log C done b no_channel none = record {
    channels = λ i l e. let t = b.channels i l e in (t.0, t.1, t.2, subst (λ (rs : List Request). IsChannelAt log (replies i) (call_payloads 0 (filter_map (call_to i) rs)) (length (filter_map (call_to i) rs)) t.0) (sym (append_nil done) ∙ sym b.parts) t.3);
    no_channel = no_channel;
    none_kept = none;
    setting_up = λ before after is up. (b.rests before after is).1 up;
  }

  -- before the first request: each channel is new
  pub fresh : (C : CrewState) → ((i : ℕ) (l : LinkNo) → sim_link started S i ≡ Some l → channel_at C i ≡ Some (record { link = l; held = []; unsent = []; parked = false; next = 0 })) → IsBetween started S (λ i. []) [] C [] (setup_requests S)
  fresh C new = record {
    parts = refl;
    counts = λ i l e. refl;
    channels = λ i l e. (record { link = l; held = []; unsent = []; parked = false; next = 0 }, new i l e, refl, record { heard = hearing.none []; said = refl; framed = tt; next_id = refl; parked = λ p. absurd (true≢false (sym p)) });
    rests = λ before after is. absurd (not_empty before after Rest is);
  }
