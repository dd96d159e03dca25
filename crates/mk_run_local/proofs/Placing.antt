-- One simulator is changed, and the others stand.
use Rattle.std.proofs.Common.{◌≡◌, ◌⊎◌, inl, inr, ℕ, zero, suc, ◌<◌, List, [], ◌∷◌, ◌++◌, length, map, slice_get, slice_set, Option, Some, is_some, get_or, option_and_then, true, true≢false, refl, sym, ap, ◌∙◌, subst, arith}
use Rattle.std.proofs.lemmas.Bool.{cases_eq}
use Rattle.std.proofs.lemmas.Option.{slice_get_read}
use Rattle.mk_base.specs.declared.SimNo.{SimNo}
use Rattle.mk_base.specs.Lists.{Each, IsIn}
use Rattle.mk_base.proofs.Lists.{set_here, set_else, map_append}
use Rattle.mk_plan.specs.declared.Call.{Call}
use Rattle.mk_plan.specs.declared.Item.{Item}
use Rattle.mk_plan.specs.declared.Message.{Message}
use Rattle.mk_plan.specs.Journals.{Arrival}
use Rattle.mk_local.specs.declared.turn.Turn.{Turn}
use Rattle.mk_local.specs.Calls.{call_reply, after_call}
use Rattle.mk_local.specs.Replies.{item_reply, after_item}
use Rattle.mk_local.specs.Simulators.{Simulator}
use Rattle.mk_run_local.specs.Seen.{WithinState, sim_at, AreOf, IsHere, arrival}
use Rattle.mk_run_local.specs.Calls.{IsAnswered, IsCalled, IsFitSuccess}
use Rattle.mk_run_local.specs.inner.Standing.{IsFit, AreFit}
use Rattle.mk_run_local.proofs.Numbers.{call_fit, call_kind, item_fit, item_kind}
use Rattle.mk_run_local.proofs.Replying.{reply_fit}
use Rattle.mk_base.proofs.Items.{each_behind}

abbrev Sims : Type 0
Sims = List (Option Simulator)

abbrev all : Sims → List Arrival → WithinState
all sims kept = record { sims = sims; kept = kept }

-- the simulator that was read is the one at its place
pub read_there : (old : WithinState) (sims : Sims) (kept : List Arrival) → all sims kept ≡ old → (i : ℕ) (o : Option Simulator) (L : Simulator) → IsHere old i → o ≡ get_or sims i o → o ≡ Some L → slice_get sims i ≡ Some (Some L)
read_there old sims kept view i o L here is some = slice_get_read sims (length sims) i o refl (low sims i (ap (λ (W : WithinState). is_some (sim_at W i)) view ∙ here)) is ∙ ap Some some
  where
    low : (xs : Sims) (k : ℕ) → is_some (option_and_then (λ (o : Option Simulator). o) (slice_get xs k)) ≡ true → k < length xs
    low [] k h = absurd (true≢false (sym h))
    low (x ∷ xs) zero h = omega arith
    low (x ∷ xs) (suc k) h = omega (arith, low xs k h)

module _ (old : WithinState) (sims : Sims) (kept : List Arrival) (view : all sims kept ≡ old) (i : ℕ) (L N : Simulator) (there : slice_get sims i ≡ Some (Some L)) where
  here : sim_at old i ≡ Some L
  here = ap (λ (W : WithinState). sim_at W i) (sym view) ∙ ap (option_and_then (λ (o : Option Simulator). o)) there

  -- a simulator afterwards is the new one, or was there before
  after : (k : List Arrival) (j : ℕ) (M : Simulator) → sim_at (all (slice_set sims i (Some N)) k) j ≡ Some M → (M ≡ N) ⊎ (sim_at old j ≡ Some M)
  after k j M is = elim (cases_eq j i) [
    | inl same ↦ inl (let q : Some N ≡ Some M = sym (ap (λ n. option_and_then (λ (o : Option Simulator). o) (slice_get (slice_set sims i (Some N)) n)) same ∙ ap (option_and_then (λ (o : Option Simulator). o)) (set_here sims i (Some N) (Some L) there)) ∙ is in let r : M ≡ N = cc in r)
    | inr apart ↦ inr (ap (λ (W : WithinState). sim_at W j) (sym view) ∙ sym (ap (option_and_then (λ (o : Option Simulator). o)) (set_else sims i j (Some N) apart)) ∙ is)
  ]

  of_set : (k : List Arrival) (rows : List Turn) → N.kind ≡ L.kind → AreOf rows old → AreOf rows (all (slice_set sims i (Some N)) k)
  of_set k rows same known j M is = elim (after k j M is) [
    | inl new ↦ subst (λ (T : Turn). IsIn T rows) (sym (ap (λ (S : Simulator). S.kind) new ∙ same)) (known i L here)
    | inr was ↦ known j M was
  ]

  fit_here : AreFit old → IsFit L
  fit_here stands = stands.sims i L here

  stands_set : AreFit old → IsFit N → AreFit (all (slice_set sims i (Some N)) kept)
  stands_set stands fit = record {
    sims = λ j M is. elim (after kept j M is) [ inl new ↦ subst IsFit (sym new) fit | inr was ↦ stands.sims j M was ];
    kept = subst (λ (W : WithinState). Each (λ (a : Arrival). IsFitSuccess a.message) W.kept) (sym view) stands.kept;
  }

  stands_kept : AreFit old → IsFit N → (a : Arrival) → IsFitSuccess a.message → AreFit (all (slice_set sims i (Some N)) (kept ++ a ∷ []))
  stands_kept stands fit a good = record {
    sims = λ j M is. elim (after (kept ++ a ∷ []) j M is) [ inl new ↦ subst IsFit (sym new) fit | inr was ↦ stands.sims j M was ];
    kept = each_behind (λ (b : Arrival). IsFitSuccess b.message) kept a (subst (λ (W : WithinState). Each (λ (b : Arrival). IsFitSuccess b.message) W.kept) (sym view) stands.kept) good;
  }

  -- a request
  module _ (id : ℕ) (call : Call) (m : Message) (reply : call_reply L id call ≡ Some m) (is : N ≡ after_call L call) where
    pub called : IsCalled old i id call m (all (slice_set sims i (Some N)) kept)
    called = record {
      sim = L;
      there = here;
      reply = reply;
      moved = ap (λ (M : Simulator). all (slice_set sims i (Some M)) kept) is ∙ ap (λ (k : List Arrival). all (slice_set sims i (Some (after_call L call))) k) (ap (λ (W : WithinState). W.kept) view)
          ∙ ap (λ (s : Sims). all (slice_set s i (Some (after_call L call))) old.kept) (ap (λ (W : WithinState). W.sims) view);
    }

  pub called_of : (call : Call) → N ≡ after_call L call → (rows : List Turn) → AreOf rows old → AreOf rows (all (slice_set sims i (Some N)) kept)
  called_of call is rows known = of_set kept rows (ap (λ (S : Simulator). S.kind) is ∙ call_kind L call) known

  pub called_stands : AreFit (all sims kept) → (call : Call) → N ≡ after_call L call → AreFit (all (slice_set sims i (Some N)) kept)
  called_stands stands call is = let was : AreFit old = subst AreFit view stands in stands_set was (subst IsFit (sym is) (call_fit L call (fit_here was)))

  -- an item, whose reply is kept
  module _ (s : SimNo) (named : s.0 ≡ i) (id : ℕ) (item : Item) (m : Message) (reply : item_reply L id item ≡ Some m) (is : N ≡ after_item L item) (was queue : List (SimNo × Message)) (before : map arrival was ≡ kept) (pushed : queue ≡ was ++ (s, m) ∷ []) where
    a : Arrival
    a = record { sim = i; message = m }

    queued : map arrival queue ≡ kept ++ record { sim = i; message = m } ∷ []
    queued = ap (map arrival) pushed ∙ map_append arrival was ((s, m) ∷ []) ∙ ap (λ (k : List Arrival). k ++ record { sim = s.0; message = m } ∷ []) before ∙ ap (λ (n : ℕ). kept ++ record { sim = n; message = m } ∷ []) named

    pub answered : IsAnswered old i id item (all (slice_set sims i (Some N)) (map arrival queue))
    answered = record {
      sim = L;
      there = here;
      reply = m;
      replied = reply;
      moved = ap (λ (k : List Arrival). all (slice_set sims i (Some N)) k) queued ∙ ap (λ (M : Simulator). all (slice_set sims i (Some M)) (kept ++ record { sim = i; message = m } ∷ [])) is
          ∙ ap (λ (W : WithinState). all (slice_set W.sims i (Some (after_item L item))) (W.kept ++ record { sim = i; message = m } ∷ [])) view;
    }

    pub answered_stands : AreFit (all sims kept) → AreFit (all (slice_set sims i (Some N)) (map arrival queue))
    answered_stands stands = let before_it : AreFit old = subst AreFit view stands in subst (λ (k : List Arrival). AreFit (all (slice_set sims i (Some N)) k)) (sym queued)
        (stands_kept before_it (subst IsFit (sym is) (item_fit L item (fit_here before_it))) (record { sim = i; message = m }) (reply_fit L id item m (fit_here before_it) reply))

    pub answered_of : (rows : List Turn) → AreOf rows old → AreOf rows (all (slice_set sims i (Some N)) (map arrival queue))
    answered_of rows known = of_set (map arrival queue) rows (ap (λ (S : Simulator). S.kind) is ∙ item_kind L item) known
