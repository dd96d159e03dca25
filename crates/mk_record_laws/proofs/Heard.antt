-- For proofs alone. A plan and a journal that may stand in a record can be recorded, where the
-- plan's texts are UTF-8 and its initial values data.
use Rattle.std.proofs.Common.{◌≡◌, suc, ◌^◌, ◌<◌, ◌≤◌, true, List, [], ◌∷◌, length, All, refl, sym, subst, arith}
use Rattle.std.specs.Prelude.{IfSome}
use Rattle.std.specs.List.{list_all}
use Rattle.std.proofs.lemmas.Bool.{and_from, lt-ltb}
use Rattle.mk_base.specs.declared.json.Json.{Json}
use Rattle.mk_base.specs.Data.{IsDatumText}
use Rattle.mk_base.specs.Lists.{Each}
use Rattle.mk_base.specs.Trees.{nesting}
use Rattle.mk_plan.specs.declared.Plan.{Plan}
use Rattle.mk_plan.specs.declared.Conn.{Conn}
use Rattle.mk_plan.specs.declared.Entry.{Entry}
use Rattle.mk_plan.specs.declared.Message.{Message}
use Rattle.mk_plan.specs.Plans.{sim_count}
use Rattle.mk_json.specs.Parsed.{parsed}
use Rattle.mk_message.specs.Messages.{message_in}
use Rattle.mk_plan_check.specs.inner.FirstBad.{HasDatums}
use Rattle.mk_record_read.specs.Entries.{RecordEntry, StepOf, MessageOf, entries_of}
use Rattle.mk_record_laws.proofs.Sound.{sound_tree}
use Rattle.mk_record_laws.specs.Again.{IsRecordable, entry_fits, is_sayable}
use Rattle.mk_record_laws.specs.Readable.{IsHeard, IsReadable, MayStand}
use Rattle.mk_record_laws.specs.inner.Readable.{HasNames}
use Rattle.mk_record_laws.proofs.Messages.{message_is, message_sayable}
use Rattle.mk_record_laws.proofs.Recorded.{models_few}
use Rattle.mk_message.proofs.Ranges.{passed}

-- what was read of a payload, and isn't too deep, may stand in a line
heard_sayable : (m : Message) → IsHeard m → is_sayable m ≡ true
heard_sayable m h =
    let t = passed 1 (parsed h.payload) message_in m h.read in
    let sound = sound_tree h.payload t.0 t.1 in
    message_sayable t.0 m t.2 (record {
      proper = sound.proper;
      in_range = sound.in_range;
      nests = subst (λ (x : Json). nesting x ≤ 126) (sym (message_is t.0 m t.2).is) h.shallow;
    })

entries_fit : (P : Plan) (es : List RecordEntry) → Each (MayStand P) es → list_all (entry_fits P) es ≡ true
entries_fit P [] h = refl
entries_fit P (StepOf sim at advance ∷ es) h = and_from _ _ (and_from _ _ (lt-ltb sim (sim_count P) h.0.0) h.0.1) (entries_fit P es h.1)
entries_fit P (MessageOf a ∷ es) h = and_from _ _ (and_from _ _ (lt-ltb a.sim (sim_count P) h.0.0) (heard_sayable a.message h.0.1)) (entries_fit P es h.1)

-- what holds at each place holds of each item
each_of : {X : Type 0} (Q : X → Type 0) (xs : List X) → All Q xs → Each Q xs
each_of Q [] h = tt
each_of Q (x ∷ xs) h = (h 0 x (omega arith), each_of Q xs (λ i d k. h (suc i) d (omega arith)))

pub readable : (P : Plan) (J : List Entry) → IsReadable P J → HasNames P → HasDatums P → length (entries_of J) < 2 ^ 64 → IsRecordable P J
readable P J ok names data_of few = record {
  valid = ok.valid;
  texts = record { sims = names.sims; models = names.models; entities = names.entities; conns = names.conns; initials = each_of (λ (c : Conn). IfSome c.initial IsDatumText) P.conns data_of };
  models = models_few P ok.valid;
  entries = entries_fit P (entries_of J) ok.entries;
  count = few;
}
