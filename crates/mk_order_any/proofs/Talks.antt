-- What is sent is a prefix of what sequential execution sends, and all of it at the end.
use Rattle.std.proofs.Common.{◌≡◌, inl, inr, ℕ, ◌<◌, ◌≤◌, List, [], ◌∷◌, ◌++◌, refl, ap, sym, ◌∙◌, subst, append_assoc, append-nil, arith}
use Rattle.std.specs.Prelude.{true, Option, Some, None}
use Rattle.mk_order_any.specs.Parts.{Parts, Every, Prefix, Family, act, seq, View, Turn, case_of, Moves, Reached, heard_in, talk_in, heard_of, said_of, rest, used, whole, talk_of}
use Rattle.mk_order_any.specs.Parts.Moves.{asked, went_on, answered, finished}
use Rattle.mk_order_any.specs.Parts.Reached.{at_first, then_moves}
use Rattle.std.proofs.lemmas.Bool.{cases_lt}
use Rattle.mk_order_any.specs.Laws.{Laws}
use Rattle.mk_order_any.proofs.Lists.{none_some}
use Rattle.mk_order_any.proofs.Reading.{used_on, talk_on}
use Rattle.mk_order_any.proofs.ActLists.{talk_in-append, rest_whole}
use Rattle.mk_order_any.proofs.Folding.{made_by}
use Rattle.mk_order_any.proofs.Bounds.{nothing_left}
use Rattle.mk_order_any.proofs.Invariant.{Opened, Agreeing, Shape, Invariant, invariant_holds, heard_open, heard_closed, begun_of}

module _ (P : Parts) (L : Laws P) where
  open P use {Tier, Via, Message, Place, Act, Said, at, ended, due, pending, begin, told, heard, step, mk, msgs, talk}

  abbrev said_by : List Act → Option (Turn P) → List Said
  said_by K o = talk_in P K ++ case_of o [] (λ T. T.lines)

  pub said_open : (V : View P) (i : ℕ) (T : Turn P) → V.open_at i ≡ Some T → said_of P V i ≡ talk_in P (V.acts i) ++ T.lines
  said_open V i T is = ap (λ o. said_by (V.acts i) o) is

  pub said_closed : (V : View P) (i : ℕ) → V.open_at i ≡ None → said_of P V i ≡ talk_in P (V.acts i)
  said_closed V i is = ap (λ o. said_by (V.acts i) o) is ∙ append-nil (talk_in P (V.acts i))

  module _ (V : View P) (R : ℕ → List Message) (shape : Shape P L V.acts V.open_at) (a : Agreeing P L (seq P R) V.acts V.open_at) (cont : (i : ℕ) → Prefix (heard_of P V i) (R i)) where
    -- the first unknown act of an open simulator goes on after the turn's lines
    pub goes_on : (i : ℕ) (T : Turn P) (is : V.open_at i ≡ Some T) →
        talk (a.opened i T is).first ≡ (T.lines ++ T.owed) ++ talk_of P (seq P R) i T.when T.place (used P i T.place (cont i).0)
    goes_on i T is = ap talk made ∙ L.talk_mk T.when (used P i b r) (whole P i b r) (told (step (seq P R) i T.when (V.acts i)) ∷ talk_of P (seq P R) i T.when b (used P i b r)) ∙ lines
      where
        o : Opened P L (seq P R) (V.acts i) i T
        o = a.opened i T is

        b : Place
        b = begin i T.when (V.acts i)

        later : List Message
        later = (cont i).0

        r : List Message
        r = rest P (V.acts i) (R i)

        r_is : rest P (V.acts i) (R i) ≡ T.messages ++ later
        r_is = ap (λ l. rest P (V.acts i) l) ((cont i).1 ∙ ap (λ l. l ++ later) (heard_open P L V i T is) ∙ append_assoc (heard_in P (V.acts i)) T.messages later)
            ∙ rest_whole P (V.acts i) (T.messages ++ later) (shape.whole_acts i)

        made : o.first ≡ act P (seq P R) i T.when (V.acts i) (R i)
        made = (made_by P L R i (V.acts i) o.first o.back o.parts).1 ∙ ap (λ (x : Tier). act P (seq P R) i x (V.acts i) (R i)) o.begun

        lines : told (step (seq P R) i T.when (V.acts i)) ∷ talk_of P (seq P R) i T.when b (used P i b r) ≡ (T.lines ++ T.owed) ++ talk_of P (seq P R) i T.when T.place (used P i T.place later)
        lines =
            ap (λ l. told (step (seq P R) i T.when (V.acts i)) ∷ talk_of P (seq P R) i T.when b (used P i b l)) r_is
            ∙ ap (λ l. told (step (seq P R) i T.when (V.acts i)) ∷ talk_of P (seq P R) i T.when b l) (used_on P i b T.place T.messages later (shape.reads i T is))
            ∙ ap (λ l. told (step (seq P R) i T.when (V.acts i)) ∷ l) (talk_on P i (seq P R) T.when b T.place T.messages (used P i T.place later) (shape.reads i T is))
            ∙ ap (λ l. l ++ talk_of P (seq P R) i T.when T.place (used P i T.place later)) (sym o.lines_are)

    prefix_of_talk : (i : ℕ) → Prefix (said_of P V i) (talk_in P (seq P R i))
    prefix_of_talk i = go (V.open_at i) refl
      where
        go : (o : Option (Turn P)) → V.open_at i ≡ o → Prefix (said_of P V i) (talk_in P (seq P R i))
        go None shut = let k : (U : List Act) × (seq P R i ≡ V.acts i ++ U) = a.known i in
            (talk_in P k.0, ap (λ l. talk_in P l) k.1 ∙ talk_in-append P (V.acts i) k.0 ∙ ap (λ l. l ++ talk_in P k.0) (sym (said_closed V i shut)))
        go (Some T) is =
            let o : Opened P L (seq P R) (V.acts i) i T = a.opened i T is in
            let later : List Said = talk_of P (seq P R) i T.when T.place (used P i T.place (cont i).0) in (
              T.owed ++ later ++ talk_in P o.back,
              ap (λ l. talk_in P l) o.parts ∙ talk_in-append P (V.acts i) (o.first ∷ o.back)
                  ∙ ap (λ l. talk_in P (V.acts i) ++ (l ++ talk_in P o.back)) (goes_on i T is ∙ append_assoc T.lines T.owed later)
                  ∙ ap (λ l. talk_in P (V.acts i) ++ l) (append_assoc T.lines (T.owed ++ later) (talk_in P o.back))
                  ∙ sym (append_assoc (talk_in P (V.acts i)) T.lines (T.owed ++ later ++ talk_in P o.back))
                  ∙ ap (λ l. l ++ (T.owed ++ later ++ talk_in P o.back)) (sym (said_open V i T is)),
            )

  -- simulators at or above the count have no acts and nothing open
  pub above : (V : View P) → Reached P V → (i : ℕ) → P.count ≤ i → (V.open_at i ≡ None) × (V.acts i ≡ [])
  above V (at_first _ empty shut) i high = (shut i, empty i)
  above W (then_moves V _ before moves) i high = go (above V before i high) moves
    where
      go : (V.open_at i ≡ None) × (V.acts i ≡ []) → Moves P V W → (W.open_at i ≡ None) × (W.acts i ≡ [])
      go old (asked s x ready same is others) =
          let low : s < P.count = L.due_below V.acts s x (L.pending_due V.acts s x ready.at_pending) in
          (others i (λ e. not_low s e low) ∙ old.0, ap (λ (A : Family P). A i) same ∙ old.1)
        where
          not_low : (s : ℕ) → i ≡ s → s < P.count → ⊥
          not_low s e low = omega arith
      go old (went_on i' m T q stands paid right goes same is others) = (others i (λ e. none_some T (sym old.0 ∙ ap V.open_at e ∙ stands)) ∙ old.0, ap (λ (A : Family P). A i) same ∙ old.1)
      go old (answered i' T stands same is others) = (others i (λ e. none_some T (sym old.0 ∙ ap V.open_at e ∙ stands)) ∙ old.0, ap (λ (A : Family P). A i) same ∙ old.1)
      go old (finished i' m T stands paid right over grown shut kept others) =
          (others i (λ e. none_some T (sym old.0 ∙ ap V.open_at e ∙ stands)) ∙ old.0, kept i (λ e. none_some T (sym old.0 ∙ ap V.open_at e ∙ stands)) ∙ old.1)

  pub heard_above : (V : View P) → Reached P V → (i : ℕ) → P.count ≤ i → heard_of P V i ≡ []
  heard_above V reached i high = let r : (V.open_at i ≡ None) × (V.acts i ≡ []) = above V reached i high in heard_closed P L V i r.0 ∙ ap (λ K. heard_in P K) r.1

  -- what goes on below the count goes on everywhere
  pub everywhere : (V : View P) → Reached P V → (R : ℕ → List Message) → ((i : ℕ) → i < P.count → Prefix (heard_of P V i) (R i)) → (i : ℕ) → Prefix (heard_of P V i) (R i)
  everywhere V reached R cont i = elim (cases_lt i P.count) [ inl low ↦ cont i low | inr high ↦ (R i, ap (λ l. l ++ R i) (sym (heard_above V reached i high))) ]

  -- sequential execution has no acts there
  pub seq_above : (R : ℕ → List Message) (i : ℕ) → P.count ≤ i → seq P R i ≡ []
  seq_above R i high = go (seq P R i) refl
    where
      not_low : i < P.count → ⊥
      not_low low = omega arith

      go : (l : List Act) → seq P R i ≡ l → seq P R i ≡ []
      go [] is = is
      go (u ∷ l) is = absurd (not_low (L.due_below (seq P R) i (at u) (made_by P L R i [] u l is).0))

  -- what was said to each simulator and heard of it is a prefix of its talk in sequential
  -- execution, for every continuation of what was heard
  pub agrees : (V : View P) → Reached P V → (R : ℕ → List Message) → ((i : ℕ) → i < P.count → Prefix (heard_of P V i) (R i)) → (i : ℕ) → Prefix (said_of P V i) (talk_in P (seq P R i))
  agrees V reached R cont = let inv : Invariant P L V = invariant_holds P L V reached in let all : (i : ℕ) → Prefix (heard_of P V i) (R i) = everywhere V reached R cont in
      prefix_of_talk V R inv.shape (inv.agreeing R all) all

  pub record AllOfIt (V : View P) (R : ℕ → List Message) (i : ℕ) : Type 0 where
    pub acts_are : seq P R i ≡ V.acts i
    pub all_whole : Every (λ a. ended a ≡ true) (seq P R i)
    pub all_used : heard_in P (seq P R i) ≡ heard_of P V i
    pub talk_is : said_of P V i ≡ talk_in P (seq P R i)

  -- at the end, for whatever goes on, sequential execution is what is known
  pub at_end : (V : View P) → Reached P V → ((i : ℕ) → i < P.count → V.open_at i ≡ None) → ((i : ℕ) → i < P.count → pending V.acts i ≡ None) → (R : ℕ → List Message) →
      ((i : ℕ) → i < P.count → Prefix (heard_of P V i) (R i)) → (i : ℕ) → AllOfIt V R i
  at_end V reached shut quiet R cont i = record {
    acts_are = same;
    all_whole = subst (λ (l : List Act). Every (λ a. ended a ≡ true) l) (sym same) (inv.shape.whole_acts i);
    all_used = ap (λ l. heard_in P l) same ∙ sym (heard_closed P L V i (closed i));
    talk_is = said_closed V i (closed i) ∙ ap (λ l. talk_in P l) (sym same);
  }
    where
      inv : Invariant P L V
      inv = invariant_holds P L V reached

      a : Agreeing P L (seq P R) V.acts V.open_at
      a = inv.agreeing R (everywhere V reached R cont)

      closed : (j : ℕ) → V.open_at j ≡ None
      closed j = elim (cases_lt j P.count) [ inl low ↦ shut j low | inr high ↦ (above V reached j high).0 ]

      none_pending : (j : ℕ) → pending V.acts j ≡ None
      none_pending j = elim (cases_lt j P.count) [ inl low ↦ quiet j low | inr high ↦ go high (pending V.acts j) refl ]
        where
          go : P.count ≤ j → (p : Option Tier) → pending V.acts j ≡ p → pending V.acts j ≡ None
          go high None is = is
          go high (Some x) is = absurd (not_low (L.due_below V.acts j x (L.pending_due V.acts j x is)))
            where
              not_low : j < P.count → ⊥
              not_low low = omega arith

      same : seq P R i ≡ V.acts i
      same = (a.known i).1 ∙ ap (λ l. V.acts i ++ l) (nothing_left P L R V (λ j. (a.known j).0) (λ j. (a.known j).1) (begun_of P L R V a) closed none_pending i) ∙ append-nil (V.acts i)
