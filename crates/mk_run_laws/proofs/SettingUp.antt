-- What stands where the handshake rests.
use Rattle.std.proofs.Common.{◌≡◌, ℕ, zero, suc, ◌+◌, Bool, true, List, [], ◌∷◌, ◌++◌, length, filter_map, Option, Some, None, option_map, refl, sym, ap, ◌∙◌, subst, inl, inr, arith, length-append, if◌then◌else◌}
use Rattle.std.specs.List.{cons_option}
use Rattle.mk_base.specs.declared.LinkNo.{LinkNo}
use Rattle.mk_base.proofs.Lists.{append_nil, none_some, some_same, filter_map_append}
use Rattle.mk_plan.specs.declared.Call.{Call}
use Rattle.mk_plan.specs.declared.Message.{Message}
use Rattle.mk_plan.specs.Sequential.{Messages}
use Rattle.mk_frame.specs.Frames.{frames_of}
use Rattle.mk_scenario.specs.declared.parts.Scenario.{Scenario}
use Rattle.mk_outside.specs.declared.fleet.LogEntry.{LogEntry}
use Rattle.mk_outside.specs.declared.fleet.LogEntry.TheVariants.{NotHeard, Rest}
use Rattle.mk_outside.specs.Logs.{heard_on, last_read}
use Rattle.mk_run_laws.specs.Hearing.{messages_heard}
use Rattle.mk_run_laws.specs.Handshake.{Request, setup_requests, call_to, call_payloads, setup_count, sim_link}
use Rattle.mk_run_laws.specs.Channels.{Channel, IsChannelAt}
use Rattle.mk_run_laws.specs.Rests.{with_number, asked, all_counts, AllSetUp, SaysAll, IsWellInSetup}
use Rattle.mk_run_laws.specs.Crews.{CrewState, AreParkedAtRests}
use Rattle.mk_run_laws.specs.inner.Running.{IsSettingUp}
use Rattle.mk_run_laws.proofs.Moving.{channel_moved}
use Rattle.mk_run_laws.proofs.Resting.{number_here, number_away, parked_said, parked_messages}
use Rattle.mk_base.proofs.Counts.{not_same, same_or_not, same_self}

-- ---- which requests were asked

-- how many of these requests go to simulator i
abbrev count_to : ℕ → List Request → ℕ
count_to i rs = length (filter_map (call_to i) rs)

to_here : (r : Request) (rs : List Request) → filter_map (call_to r.sim) (r ∷ rs) ≡ r.call ∷ filter_map (call_to r.sim) rs
to_here r rs = ap (λ (b : Bool). cons_option (if b then Some r.call else None) (filter_map (call_to r.sim) rs)) (same_self r.sim)

to_away : (r : Request) (rs : List Request) (i : ℕ) → (r.sim ≡ i → ⊥) → filter_map (call_to i) (r ∷ rs) ≡ filter_map (call_to i) rs
to_away r rs i n = ap (λ (b : Bool). cons_option (if b then Some r.call else None) (filter_map (call_to i) rs)) (not_same r.sim i n)

-- the heads are equal, so lists to i are if those of what follows are
with_head : (r : Request) (xs ys : List Request) (i : ℕ) → filter_map (call_to i) xs ≡ filter_map (call_to i) ys → filter_map (call_to i) (r ∷ xs) ≡ filter_map (call_to i) (r ∷ ys)
with_head r xs ys i e = ap (λ (l : List Call). cons_option (call_to i r) l) e

abbrev Counted : (ℕ → Option ℕ) → List Request → Type 0
Counted heard A = (i n : ℕ) → heard i ≡ Some n → n ≡ count_to i A

abbrev IsThere : (ℕ → Option ℕ) → ℕ → Type 0
IsThere heard i = (n : ℕ) × (heard i ≡ Some n)

abbrev after_request : (ℕ → Option ℕ) → Request → List Request → Option ℕ → List Request
after_request heard r rs o = elim o [
  | None ↦ asked heard rs
  | Some n ↦ elim n [ zero ↦ r ∷ [] | suc k ↦ r ∷ asked (with_number r.sim (Some k) heard) rs ]
]

-- the requests asked are those whose replies have come and the one whose reply is awaited
asked_is : (heard : ℕ → Option ℕ) (A : List Request) (now : Request) (later : List Request) → Counted heard A → IsThere heard now.sim → (i : ℕ) → IsThere heard i
    → filter_map (call_to i) (asked heard (A ++ now ∷ later)) ≡ filter_map (call_to i) (A ++ now ∷ [])
asked_is heard [] now later counted there i (k, is) = ap (λ (o : Option ℕ). filter_map (call_to i) (after_request heard now later o)) (there.1 ∙ ap Some (counted now.sim there.0 there.1))
asked_is heard (r ∷ A) now later counted there i wanted = go (λ h c t w. asked_is h A now later c t i w) (heard r.sim) refl
  where
    go : ((h : ℕ → Option ℕ) → Counted h A → IsThere h now.sim → IsThere h i → filter_map (call_to i) (asked h (A ++ now ∷ later)) ≡ filter_map (call_to i) (A ++ now ∷ []))
        → (o : Option ℕ) → heard r.sim ≡ o → filter_map (call_to i) (after_request heard r (A ++ now ∷ later) o) ≡ filter_map (call_to i) (r ∷ (A ++ now ∷ []))
    go rest None e = rest heard (λ j n h. elim (same_or_not r.sim j) [ inl q ↦ absurd (none_some (sym e ∙ ap heard q ∙ h)) | inr apart ↦ counted j n h ∙ ap length (to_away r A j apart) ]) there wanted
        ∙ sym (to_away r (A ++ now ∷ []) i (λ q. none_some (sym e ∙ ap heard q ∙ wanted.1)))
    go rest (Some zero) e = absurd (let c = counted r.sim 0 e in let d = ap length (to_here r A) in omega (arith, c, d))
    go rest (Some (suc k)) e = with_head r (asked (with_number r.sim (Some k) heard) (A ++ now ∷ later)) (A ++ now ∷ []) i (rest (with_number r.sim (Some k) heard)
        (λ j n h. elim (same_or_not j r.sim) [
          | inl q ↦ let n_is : k ≡ n = some_same (sym (number_here r.sim (Some k) heard) ∙ ap (with_number r.sim (Some k) heard) (sym q) ∙ h) in
              let c = counted r.sim (suc k) e in let d = ap length (to_here r A) in subst (λ (x : ℕ). n ≡ count_to x A) (sym q) (omega (arith, c, d, n_is))
          | inr apart ↦ counted j n (sym (number_away r.sim (Some k) heard j apart) ∙ h) ∙ ap length (to_away r A j (λ q. apart (sym q)))
        ]) (still now.sim there) (still i wanted))
      where
        still : (j : ℕ) → IsThere heard j → IsThere (with_number r.sim (Some k) heard) j
        still j (n, is) = elim (same_or_not j r.sim) [
          | inl q ↦ (k, ap (with_number r.sim (Some k) heard) q ∙ number_here r.sim (Some k) heard)
          | inr apart ↦ (n, number_away r.sim (Some k) heard j apart ∙ is)
        ]

-- ---- at a rest

module _ (started : ℕ) (S : Scenario) (replies : Messages) (log entries : List LogEntry) (C : CrewState) (done : List Request) (now : Request) (later : List Request) (up : IsSettingUp started S replies log C done now later)
    (parked : AreParkedAtRests entries C) (before after : List LogEntry) (is : entries ≡ before ++ Rest ∷ after) where
  -- each channel at the rest
  at_rest : (i : ℕ) (l : LinkNo) → sim_link started S i ≡ Some l
      → (w : Channel) × (w.link ≡ l) × (w.parked ≡ true) × IsChannelAt (log ++ before) (replies i) (call_payloads 0 (filter_map (call_to i) (done ++ now ∷ []))) (length (filter_map (call_to i) (done ++ now ∷ []))) w
  at_rest i l linked =
      let t = up.channels i l linked in
      let p = parked before after is i t.0 t.1 in (
        p.0,
        p.1.link ∙ t.2,
        p.2,
        subst (λ (ms : List Message). IsChannelAt (log ++ before) ms (call_payloads 0 (filter_map (call_to i) (done ++ now ∷ []))) (length (filter_map (call_to i) (done ++ now ∷ []))) p.0) (append_nil (replies i))
            (channel_moved log before (replies i) [] (call_payloads 0 (filter_map (call_to i) (done ++ now ∷ []))) (length (filter_map (call_to i) (done ++ now ∷ []))) t.0 p.0 t.3 p.1),
      )

  heard_then : (i : ℕ) (l : LinkNo) → sim_link started S i ≡ Some l → messages_heard (heard_on l (log ++ before)) ≡ replies i
  heard_then i l linked = let t = at_rest i l linked in ap (λ (k : LinkNo). messages_heard (heard_on k (log ++ before))) (sym t.1)
      ∙ parked_messages (log ++ before) (replies i) (call_payloads 0 (filter_map (call_to i) (done ++ now ∷ []))) (length (filter_map (call_to i) (done ++ now ∷ []))) t.0 t.2 t.3

  counts_then : (i : ℕ) (l : LinkNo) → sim_link started S i ≡ Some l → all_counts started S (log ++ before) i ≡ Some (count_to i done)
  counts_then i l linked = ap (option_map (λ (k : LinkNo). length (messages_heard (heard_on k (log ++ before))))) linked ∙ ap (λ (ms : List Message). Some (length ms)) (heard_then i l linked) ∙ ap Some (up.counts i l linked)

  counted : Counted (all_counts started S (log ++ before)) done
  counted i n h = go (sim_link started S i) refl h
    where
      go : (o : Option LinkNo) → sim_link started S i ≡ o → option_map (λ (k : LinkNo). length (messages_heard (heard_on k (log ++ before)))) o ≡ Some n → n ≡ count_to i done
      go None e q = absurd (none_some q)
      go (Some l) e q = sym (some_same q) ∙ ap length (heard_then i l e) ∙ up.counts i l e

  -- the clause of a rest of the handshake
  pub well_in_setup : IsWellInSetup started S (log ++ before)
  well_in_setup = record {
    said = λ i l linked. let t = at_rest i l linked in
        let same : filter_map (call_to i) (asked (all_counts started S (log ++ before)) (setup_requests S)) ≡ filter_map (call_to i) (done ++ now ∷ []) =
        ap (λ (rs : List Request). filter_map (call_to i) (asked (all_counts started S (log ++ before)) rs)) up.parts
        ∙ asked_is (all_counts started S (log ++ before)) done now later counted (count_to now.sim done, counts_then now.sim up.linked.0 up.linked.1) i (count_to i done, counts_then i l linked) in
        subst (λ (cs : List Call). SaysAll l (log ++ before) (frames_of (call_payloads 0 cs))) (sym same)
        (subst (λ (k : LinkNo). SaysAll k (log ++ before) (frames_of (call_payloads 0 (filter_map (call_to i) (done ++ now ∷ []))))) t.1
        (parked_said (log ++ before) (replies i) (call_payloads 0 (filter_map (call_to i) (done ++ now ∷ []))) (length (filter_map (call_to i) (done ++ now ∷ []))) t.0 t.2 t.3));
    heard_all = λ i l linked. let t = at_rest i l linked in subst (λ (k : LinkNo). last_read k (log ++ before) ≡ Some (NotHeard k)) t.1 (t.3.parked t.2).heard_all;
  }

  -- not all had replied to all
  pub not_set_up : AllSetUp started S (log ++ before) → ⊥
  not_set_up all =
      let l = up.linked.0 in
      let size = all now.sim l up.linked.1 in
      let a = ap length (heard_then now.sim l up.linked.1) ∙ up.counts now.sim l up.linked.1 in
      let b : setup_count S now.sim ≡ count_to now.sim (done ++ now ∷ later) = ap (λ (rs : List Request). count_to now.sim rs) up.parts in
      let c : count_to now.sim (done ++ now ∷ later) ≡ count_to now.sim done + count_to now.sim (now ∷ later) = ap length (filter_map_append (call_to now.sim) done (now ∷ later)) ∙ length-append (filter_map (call_to now.sim) done) (filter_map (call_to now.sim) (now ∷ later)) in
      let d = ap length (to_here now later) in
      omega (arith, size, a, b, c, d)
