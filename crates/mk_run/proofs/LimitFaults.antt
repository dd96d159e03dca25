-- A right message makes no fault but that of the loop limit.
use Rattle.std.proofs.Common.{◌≡◌, ℕ, ◌+◌, ◌==◌, ℤ, List, [], ◌∷◌, ◌++◌, find, Option, Some, None, is_some, false, ap, sym, ◌∙◌, true≢false}
use Rattle.mk_base.specs.declared.SimNo.{SimNo}
use Rattle.mk_base.proofs.Lists.{none_some, some_same}
use Rattle.mk_plan.specs.declared.Plan.{Plan}
use Rattle.mk_plan.specs.declared.Conn.{Conn}
use Rattle.mk_plan.specs.declared.Place.{Place}
use Rattle.mk_plan.specs.declared.Cause.{Cause}
use Rattle.mk_plan.specs.declared.Message.{Message}
use Rattle.mk_plan.specs.declared.Entry.{Entry}
use Rattle.mk_plan.specs.declared.Entry.TheVariants.{Got}
use Rattle.mk_plan.specs.Acts.{Act}
use Rattle.mk_plan.specs.Deliveries.{Timed, supply, deliveries}
use Rattle.mk_plan.specs.Plans.{owner}
use Rattle.mk_plan.specs.Sequential.{grown, no_acts}
use Rattle.mk_plan.specs.Turns.{is_wrong, next_place, wrong}
use Rattle.mk_plan.specs.Journals.{View, OpenTurn, Fault, LoopLimit, beyond, note_got, note_right, place_at, view}
use Rattle.mk_order.proofs.Pushing.{view_push}

-- the fault is that of the loop limit
abbrev pub IsLoopLimit : Fault → Type 0
IsLoopLimit x = (i : ℕ) × (t : ℤ) × (x ≡ LoopLimit i t)

module _ (P : Plan) where
  found : (s : ℕ) (a : Act) (c : Conn) (conns : List Conn) (x : Fault) (o : Option Timed) → (beyond P s a conns ≡ Some x → IsLoopLimit x)
      → (elim o as (λ _. Option Fault) [ None ↦ beyond P s a conns | Some d ↦ Some (LoopLimit (owner P c.to) d.at.time) ]) ≡ Some x → IsLoopLimit x
  found s a c conns x None later e = later e
  found s a c conns x (Some d) later e = (owner P c.to, d.at.time, sym (some_same e))

  searched : (s : ℕ) (a : Act) (conns : List Conn) (x : Fault) → beyond P s a conns ≡ Some x → IsLoopLimit x
  searched s a [] x e = absurd (none_some e)
  searched s a (c ∷ conns) x e = found s a c conns x (find (λ (d : Timed). d.at.tier == P.loops + 1) (deliveries P (supply P (grown no_acts s a)) c)) (λ q. searched s a conns x q) e

  right_fault : (V : View) (i : ℕ) (m : Message) (T : OpenTurn) (q : Option Place) (x : Fault) → V.fault ≡ None → (note_right P V i m T q).fault ≡ Some x → IsLoopLimit x
  right_fault V i m T (Some q) x fine e = absurd (none_some (sym fine ∙ e))
  right_fault V i m T None x fine e = searched i _ _ x e

  got_fault : (V : View) (i : ℕ) (m : Message) (o : Option OpenTurn) (c : Option Cause) (x : Fault) → is_some c ≡ false → V.fault ≡ None → (note_got P V i m o c).fault ≡ Some x → IsLoopLimit x
  got_fault V i m o (Some c) x none fine e = absurd (true≢false none)
  got_fault V i m None None x none fine e = absurd (none_some (sym fine ∙ e))
  got_fault V i m (Some T) None x none fine e = right_fault V i m T (next_place P i T.place m) x fine e

  pub fault_is_limit : (H : List Entry) (s : SimNo) (m : Message) (T : OpenTurn) (x : Fault) → (view P H).fault ≡ None → (view P H).open_at s.0 ≡ Some T → is_wrong P s.0 T.place m ≡ false → (view P (H ++ Got s m ∷ [])).fault ≡ Some x → IsLoopLimit x
  fault_is_limit H s m T x fine is right e =
      got_fault (view P H) s.0 m ((view P H).open_at s.0) (wrong P s.0 (place_at ((view P H).open_at s.0)) m) x
      (ap (λ (o : Option OpenTurn). is_wrong P s.0 (place_at o) m) is ∙ right) fine (ap (λ (V : View). V.fault) (sym (view_push P H (Got s m))) ∙ e)
