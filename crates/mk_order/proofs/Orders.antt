-- Progress at a journal, and another order of a finished record's arrivals.
use Rattle.std.proofs.Common.{◌≡◌, inl, inr, ℕ, ℤ, ◌<◌, List, ◌∷◌, ◌++◌, refl, ap, sym, ◌∙◌}
use Rattle.std.specs.Prelude.{true, false, Option, Some, None, option_map}
use Rattle.std.proofs.lemmas.Bool.{cases_lt}
use Rattle.mk_base.specs.declared.tier.Tier.{Tier}
use Rattle.mk_base.proofs.Lists.{none_some}
use Rattle.mk_plan.specs.declared.Plan.{Plan}
use Rattle.mk_plan.specs.declared.Message.{Message}
use Rattle.mk_plan.specs.declared.Entry.{Entry}
use Rattle.mk_plan.specs.Plans.{sim_count, IsValidPlan}
use Rattle.mk_plan.specs.Turns.{is_wrong}
use Rattle.mk_plan.specs.Acts.{Family}
use Rattle.mk_plan.specs.Sequential.{Messages, sequential, all_ended, messages_in}
use Rattle.mk_plan.specs.Journals.{View, OpenTurn, view, got, heard}
use Rattle.mk_plan.specs.Orderly.{IsOrderlySoFar}
use Rattle.mk_plan.specs.Ready.{pending, IsReady, IsDone}
use Rattle.mk_plan.specs.Agreement.{Continues}
use Rattle.mk_order.proofs.Theory.{parts, laws, seq_is}
use Rattle.mk_order.proofs.Seen.{seen, turn_of, reached}
use Rattle.mk_order.proofs.Told.{heard_seen, got_is}
use Rattle.mk_order.proofs.Agreeing.{goes_on}
use Rattle.mk_order.proofs.Going.{some_ready}
use Rattle.mk_order_any.specs.Parts as theory
use Rattle.mk_order_any.proofs.ActLists.{each_ended}
use Rattle.mk_order_any.proofs.Talks.{above, at_end}
use Rattle.mk_order_any.proofs.Replays.{next_arrival}

closed_back : (P : Plan) (V : View) (i : ℕ) → (seen P V).open_at i ≡ None → V.open_at i ≡ None
closed_back P V i is = go (V.open_at i) refl is
  where
    go : (o : Option OpenTurn) → V.open_at i ≡ o → option_map (turn_of P V.owed i) o ≡ None → V.open_at i ≡ None
    go None e e' = e
    go (Some T) e e' = absurd (none_some (sym e'))

module _ (Ready : Plan → View → ℕ → Tier → Type 0) (Advance : Plan → View → ℕ → Tier → ℤ → Type 0) (P : Plan) (truly : (V : View) (s : ℕ) (x : Tier) → Ready P V s x → IsReady P V s x) (valid : IsValidPlan P) where
  its : (J : List Entry) → IsOrderlySoFar Ready Advance P J → theory.Reached (parts P) (seen P (view P J))
  its J orderly = reached Ready Advance P truly J orderly

  -- somebody is ready where nothing is open below the count
  pub somebody_is_ready : (J : List Entry) → IsOrderlySoFar Ready Advance P J → ((i : ℕ) → i < sim_count P → (view P J).open_at i ≡ None) → (i : ℕ) (y : Tier) → pending P (view P J).acts i ≡ Some y →
      (s : ℕ) × (x : Tier) × IsReady P (view P J) s x
  somebody_is_ready J orderly closed i y there = some_ready P valid (view P J) (λ j. elim (cases_lt j (sim_count P)) [
    | inl low ↦ closed j low
    | inr high ↦ closed_back P (view P J) j (above (parts P) (laws P valid) (seen P (view P J)) (its J orderly) j high).0
  ]) i y there

  -- the messages R of a run in which each turn ends and each message is used come to the journal J
  -- in any order
  module _ (R : Messages) (used : (i : ℕ) → i < sim_count P → messages_in (sequential P R i) ≡ R i) (J : List Entry) (orderly : IsOrderlySoFar Ready Advance P J) (cont : Continues P J R) where
    -- an open turn has a right message left
    pub next_at : ((i : ℕ) → i < sim_count P → all_ended (sequential P R i) ≡ true) → (i : ℕ) (T : OpenTurn) → i < sim_count P → (view P J).open_at i ≡ Some T →
        (m : Message) × (later : List Message) × (R i ≡ heard (view P J) i ++ m ∷ later) × (is_wrong P i T.place m ≡ false)
    next_at whole i T low is =
        let V : View = view P J in
        let r : (m : Message) × (later : List Message) × (R i ≡ theory.heard_of (parts P) (seen P V) i ++ m ∷ later) × (is_wrong P i T.place m ≡ false) =
        next_arrival (parts P) (laws P valid) R (λ j l. each_ended (parts P) (theory.seq (parts P) R j) (ap (λ (F : Family). all_ended (F j)) (seq_is P R) ∙ whole j l)) (λ j l. ap (λ (F : Family). messages_in (F j)) (seq_is P R) ∙ used j l) (seen P V) (its J orderly)
        (goes_on Ready Advance P truly valid J orderly R cont) i (turn_of P V.owed i T) low (ap (λ o. option_map (turn_of P V.owed i) o) is) in
        (r.0, r.1, r.2 ∙ ap (λ l. l ++ r.0 ∷ r.1) (heard_seen P V i), r.3)

    -- all came where nothing is left to do
    pub all_came : IsDone P (view P J) → (i : ℕ) → i < sim_count P → got J i ≡ R i
    all_came done i low =
        let V : View = view P J in
        got_is Ready Advance P truly J orderly done.no_fault i ∙ sym (heard_seen P V i)
        ∙ sym (at_end (parts P) (laws P valid) (seen P V) (its J orderly) (λ j l. ap (λ o. option_map (turn_of P V.owed j) o) (done.closed j l)) done.none_pending R (goes_on Ready Advance P truly valid J orderly R cont) i).all_used
        ∙ ap (λ (F : Family). messages_in (F i)) (seq_is P R) ∙ used i low
