-- Sequential execution has the Step of a simulator that is ready behind all that was said with it.
use Rattle.std.proofs.Common.{◌≡◌, inl, inr, ℕ, ◌<◌, ◌==◌, Bool, List, [], ◌∷◌, ◌++◌, Option, Some, if◌then◌else◌, refl, sym, ap, ◌∙◌, subst, append_assoc, append-nil}
use Rattle.mk_order_any.specs.Parts.{Parts, Prefix, seq, View, Turn, case_of, Ready, Moves, Reached, heard_in, talk_in, heard_of, said_of}
use Rattle.mk_order_any.specs.Parts.Moves.{asked}
use Rattle.mk_order_any.specs.Parts.Reached.{then_moves}
use Rattle.mk_order_any.specs.Laws.{Laws}
use Rattle.mk_order_any.proofs.Lists.{same_or_not}
use Rattle.mk_order_any.proofs.Talks.{agrees}
use Rattle.mk_base.proofs.Counts.{not_same, same_self}

module _ (P : Parts) (L : Laws P) where
  open P use {Tier, Message, Said, begin, told, step}

  -- it is one of the plan's simulators
  pub ready_low : (V : View P) (s : ℕ) (x : Tier) → Ready P V s x → s < P.count
  ready_low V s x ready = L.due_below V.acts s x (L.pending_due V.acts s x ready.at_pending)

  module _ (R : ℕ → List Message) (V : View P) (reached : Reached P V) (cont : (i : ℕ) → i < P.count → Prefix (heard_of P V i) (R i)) (s : ℕ) (x : Tier) (ready : Ready P V s x) where
    abbrev after : View P
    after = record { acts = V.acts; open_at = λ j. if j == s then Some (record { when = x; messages = []; place = begin s x (V.acts s); lines = told (step V.acts s x (V.acts s)) ∷ []; owed = [] }) else V.open_at j }

    here : (o : Option (Turn P)) → (if s == s then o else V.open_at s) ≡ o
    here o = ap (λ (b : Bool). if b then o else V.open_at s) (same_self s)

    moves : Moves P V after
    moves = asked s x ready refl (here _) (λ j n. ap (λ (b : Bool). if b then Some (record { when = x; messages = []; place = begin s x (V.acts s); lines = told (step V.acts s x (V.acts s)) ∷ []; owed = [] }) else V.open_at j) (not_same j s n))

    same_heard : (i : ℕ) → heard_of P after i ≡ heard_of P V i
    same_heard i = elim (same_or_not i s) [
      | inl e ↦ subst (λ (j : ℕ). heard_of P after j ≡ heard_of P V j) (sym e)
          (ap (λ (o : Option (Turn P)). heard_in P (V.acts s) ++ case_of o [] (λ T. T.messages)) (here _) ∙ ap (λ (o : Option (Turn P)). heard_in P (V.acts s) ++ case_of o [] (λ T. T.messages)) (sym ready.closed))
      | inr n ↦ ap (λ (b : Bool). heard_in P (V.acts i) ++ case_of (if b then Some (record { when = x; messages = []; place = begin s x (V.acts s); lines = told (step V.acts s x (V.acts s)) ∷ []; owed = [] }) else V.open_at i) [] (λ T. T.messages)) (not_same i s n)
    ]

    -- what was said with it goes on with the Step
    pub step_behind : (more : List Said) × (talk_in P (seq P R s) ≡ said_of P V s ++ told (step V.acts s x (V.acts s)) ∷ more)
    step_behind =
        let t = agrees P L after (then_moves V after reached moves) R (λ i low. let c = cont i low in (c.0, c.1 ∙ ap (λ l. l ++ c.0) (sym (same_heard i)))) s in (
          t.0,
          t.1 ∙ ap (λ (o : Option (Turn P)). (talk_in P (V.acts s) ++ case_of o [] (λ T. T.lines)) ++ t.0) (here _)
              ∙ append_assoc (talk_in P (V.acts s)) (told (step V.acts s x (V.acts s)) ∷ []) t.0
              ∙ ap (λ l. l ++ told (step V.acts s x (V.acts s)) ∷ t.0) (sym (append-nil (talk_in P (V.acts s))))
              ∙ ap (λ (o : Option (Turn P)). (talk_in P (V.acts s) ++ case_of o [] (λ T. T.lines)) ++ told (step V.acts s x (V.acts s)) ∷ t.0) (sym ready.closed),
        )
