-- In an orderly journal the next message of a simulator is right, where sequential execution over a
-- family that goes on with it cuts no turn of that simulator.
use Rattle.std.proofs.Common.{◌≡◌, ℕ, ◌<◌, Bool, true, false, cond, List, [], ◌∷◌, ◌++◌, Option, Some, None, option_map, refl, ap, sym, ◌∙◌, append_assoc}
use Rattle.mk_base.specs.declared.SimNo.{SimNo}
use Rattle.mk_plan.specs.declared.Plan.{Plan}
use Rattle.mk_plan.specs.declared.Message as message
use Rattle.mk_plan.specs.declared.Entry.{Entry}
use Rattle.mk_plan.specs.declared.Entry.TheVariants.{Got}
use Rattle.mk_plan.specs.Plans.{sim_count, IsValidPlan}
use Rattle.mk_plan.specs.Acts.{Family}
use Rattle.mk_plan.specs.Sequential.{Messages, sequential, all_ended}
use Rattle.mk_plan.specs.Journals as journals
use Rattle.mk_plan.specs.Journals.{OpenTurn, view, got}
use Rattle.mk_plan.specs.Ready.{IsReady}
use Rattle.mk_plan.specs.Advance.{IsAdvance}
use Rattle.mk_plan.specs.Orderly.{IsOrderlySoFar}
use Rattle.mk_plan.specs.Agreement.{Continues}
use Rattle.mk_plan.specs.Turns.{is_wrong}
use Rattle.mk_order_any.specs.Parts as theory
use Rattle.mk_order_any.specs.Parts.{Parts, Every, Prefix, seq, View, Turn, case_of, Reached, heard_of, whole}
use Rattle.mk_order_any.specs.Laws.{Laws}
use Rattle.mk_order_any.proofs.Lists.{true_false}
use Rattle.mk_order_any.proofs.ActLists.{each_ended}
use Rattle.mk_order.proofs.Theory.{parts, laws, seq_is}
use Rattle.mk_order.proofs.Seen.{seen, turn_of, reached}
use Rattle.mk_order.proofs.Told.{heard_seen, got_is}
use Rattle.mk_order.proofs.Agreeing.{goes_on}
use Rattle.mk_order.proofs.Pushing.{got_push}
use Rattle.mk_run_laws.proofs.NextHeard.{every, whole_left}
use Rattle.mk_base.proofs.Counts.{same_self}
use Rattle.mk_base.proofs.Items.{same_behind}

module _ (P : Parts) (L : Laws P) where
  open P use {Message, ended, wrong, on}

  module _ (R : ℕ → List Message) (V : View P) (reached : Reached P V) (cont : (i : ℕ) → i < P.count → Prefix (heard_of P V i) (R i)) (i : ℕ) (T : Turn P) (is : V.open_at i ≡ Some T)
      (all : Every (λ a. ended a ≡ true) (seq P R i)) where
    -- the next message is right
    pub next_right : (m : Message) (later : List Message) → R i ≡ heard_of P V i ++ m ∷ later → wrong i T.place m ≡ false
    next_right m later e =
        let t = every P L R V reached cont i T is all i in
        go (wrong i T.place m) refl
        (ap (λ l. whole P i T.place l) (same_behind (heard_of P V i) (m ∷ later) t.0 (sym e ∙ t.1)) ∙ whole_left P L R V reached cont i T is all)
      where
        go : (c : Bool) → wrong i T.place m ≡ c → cond c false (case_of (on i T.place m) true (λ p. whole P i p later)) ≡ true → c ≡ false
        go true q w = absurd (true_false (sym w))
        go false q w = refl

module _ (P : Plan) (valid : IsValidPlan P) where
  its : (V : journals.View) (s : ℕ) (x : _) → IsReady P V s x → IsReady P V s x
  its V s x ready = ready

  -- a message that comes after an orderly journal
  pub message_right : (R : Messages) (H : List Entry) (s : SimNo) (m : message.Message) (T : OpenTurn) → IsOrderlySoFar IsReady IsAdvance P H → (view P H).fault ≡ None → Continues P (H ++ Got s m ∷ []) R → s.0 < sim_count P
      → (view P H).open_at s.0 ≡ Some T → all_ended (sequential P R s.0) ≡ true → is_wrong P s.0 T.place m ≡ false
  message_right R H s m T orderly fine cont low is uncut =
      next_right (parts P) (laws P valid) R (seen P V) (reached IsReady IsAdvance P its H orderly) (goes_on IsReady IsAdvance P its valid H orderly R before) i (turn_of P V.owed i T)
      (ap (λ (o : Option OpenTurn). option_map (turn_of P V.owed i) o) is) all m later.0 later.1
    where
      V : journals.View
      V = view P H

      i : ℕ
      i = s.0

      all : theory.Every (λ (a : theory.Parts.Act (parts P)). theory.Parts.ended (parts P) a ≡ true) (theory.seq (parts P) R i)
      all = each_ended (parts P) (theory.seq (parts P) R i) (ap (λ (F : Family). all_ended (F i)) (seq_is P R) ∙ uncut)

      before : Continues P H R
      before j lower = let t = cont j lower in
          (got (Got s m ∷ []) j ++ t.0, t.1 ∙ ap (λ l. l ++ t.0) (got_push H (Got s m) j) ∙ append_assoc (got H j) (got (Got s m ∷ []) j) t.0)

      own : got (Got s m ∷ []) i ≡ m ∷ []
      own = rw (same_self i) refl

      later : (l : List message.Message) × (R i ≡ theory.heard_of (parts P) (seen P V) i ++ m ∷ l)
      later = let t = cont i low in (
        t.0,
        t.1 ∙ ap (λ l. l ++ t.0) (got_push H (Got s m) i ∙ ap (λ l. got H i ++ l) own) ∙ append_assoc (got H i) (m ∷ []) t.0
            ∙ ap (λ l. l ++ m ∷ t.0) (got_is IsReady IsAdvance P its H orderly fine i ∙ sym (heard_seen P V i)),
      )
