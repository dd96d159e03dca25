-- What a look does, and what many do.
use Rattle.std.proofs.Common.{◌≡◌, ℕ, Bool, true, List, [], ◌∷◌, ◌++◌, flat_map, Option, Some, None, refl, sym, subst, append_assoc}
use Rattle.std.specs.Prelude.{IfSome}
use Rattle.mk_base.specs.Lists.{BeginsWith}
use Rattle.mk_base.proofs.Lists.{append_nil}
use Rattle.mk_plan.specs.declared.Plan.{Plan}
use Rattle.mk_plan.specs.declared.Entry.{Entry}
use Rattle.mk_onlooker.specs.Showings.{Saw, IsShown}
use Rattle.mk_record_read.specs.Texts.{record_text}
use Rattle.mk_scribe.specs.declared.scribe.Scribe.{Scribe}
use Rattle.mk_scribe.specs.declared.sheet.Sheet.{Sheet}
use Rattle.mk_scribe.specs.declared.sheet.Writing.{Writing}
use Rattle.mk_scribe.specs.Desks.{Has, IsNew, Makes, Notes, desk_of, looks_of}
use Rattle.mk_scribe.specs.Drafts.{Draft, IsLater, draft_of}
use Rattle.mk_scribe.specs.inner.Steps.{Adds, Moves}
use Rattle.mk_scribe.proofs.Closing.{later_still, same_draft}
use Rattle.mk_scribe.proofs.Texts.{beginning_made, beginning_of_record, if_told, moved}

-- lines were made, and then some were moved
pub notes : (draft new_draft : Draft) (old mid new : Sheet) (P : Plan) (fresh : List Entry) (pause : Bool) → draft.is_there ≡ true → Adds old P fresh mid
    → Moves draft mid.lines.items new_draft new.lines.items → new.writing ≡ mid.writing → new.count ≡ mid.count
    → Notes (record { draft = draft; sheet = old }) P fresh pause (record { draft = new_draft; sheet = new })
notes draft new_draft old mid new P fresh pause there adds moves same counted = record {
  later = moves.later;
  has = λ J has there_then.
      subst (λ (v : Writing). Makes v P (J ++ fresh) new_draft.written new.lines.items new.count) (sym same)
      (subst (λ (n : ℕ). Makes mid.writing P (J ++ fresh) new_draft.written new.lines.items n) (sym counted)
      (moved mid.writing P (J ++ fresh) draft.written new_draft.written mid.lines.items new.lines.items mid.count moves.done moves.put moves.left (adds J draft.written (has there))));
  prompt = λ paused there_then. moves.all;
}

module _ {S : Type 0} (written : S → Option (List ℕ)) (faults shortages : S → ℕ) (P : Plan) (pause : Bool) where
  -- batch by batch
  saw : (J : List Entry) (batches : List (List Entry)) (old new : Scribe S) → Saw (looks_of written faults shortages) P pause batches old new
      → Has (desk_of written faults shortages old) P J → Has (desk_of written faults shortages new) P (J ++ flat_map (λ batch. batch) batches)
  saw J [] old new same has = subst (λ (H : List Entry). Has (desk_of written faults shortages new) P H) (sym (append_nil J))
      (subst (λ (o : Scribe S). Has (desk_of written faults shortages o) P J) (sym same) has)
  saw J (batch ∷ batches) old new look has = subst (λ (H : List Entry). Has (desk_of written faults shortages new) P H) (append_assoc J batch (flat_map (λ batch. batch) batches))
      (saw (J ++ batch) batches look.0 new look.2 (look.1.has J has))

  -- nothing was shown yet
  new_has : (old : Scribe S) → IsNew (desk_of written faults shortages old) → IfSome (desk_of written faults shortages old).draft.written (λ bytes. bytes ≡ []) → Has (desk_of written faults shortages old) P []
  new_has old new empty there = subst (λ (v : Writing). Makes v P [] (desk_of written faults shortages old).draft.written old.sheet.lines.items old.sheet.count) (sym new.unbegun) (refl, new.uncounted, new.no_line, empty)

  shown : (had J : List Entry) (old new : Scribe S) → IsNew (desk_of written faults shortages old) → IfSome (desk_of written faults shortages old).draft.written (λ bytes. bytes ≡ []) → IsShown (looks_of written faults shortages) P pause had J old new → Has (desk_of written faults shortages new) P J
  shown had J old new begin empty is = subst (λ (H : List Entry). Has (desk_of written faults shortages new) P H) (sym is.all)
      (saw [] ((had ++ is.items) ∷ is.batches) old new is.saw (new_has old begin empty))

  -- what is written of a journal that a desk has
  written_begins : (draft : Option S) (sheet : Sheet) (J : List Entry) → Has (record { draft = draft_of written faults shortages draft; sheet = sheet }) P J → IfSome (draft_of written faults shortages draft).written (λ bytes. BeginsWith (record_text P J) bytes)
  written_begins None sheet J has = tt
  written_begins (Some sink) sheet J has = if_told (written sink) (beginning_of_record P J) (beginning_made sheet.writing P J (written sink) sheet.lines.items sheet.count (has refl))

  pub shown_begins : (had J : List Entry) (old new : Scribe S) → IsNew (desk_of written faults shortages old) → IfSome (desk_of written faults shortages old).draft.written (λ bytes. bytes ≡ []) → IsShown (looks_of written faults shortages) P pause had J old new
      → Has (desk_of written faults shortages new) P J × IfSome (desk_of written faults shortages new).draft.written (λ bytes. BeginsWith (record_text P J) bytes)
  shown_begins had J old new begin empty is = (shown had J old new begin empty is, written_begins new.draft new.sheet J (shown had J old new begin empty is))

  pub saw_later : (batches : List (List Entry)) (old new : Scribe S) → Saw (looks_of written faults shortages) P pause batches old new → IsLater (desk_of written faults shortages old).draft (desk_of written faults shortages new).draft
  saw_later [] old new same = subst (λ (o : Scribe S). IsLater (desk_of written faults shortages old).draft (desk_of written faults shortages o).draft) (sym same) (same_draft (desk_of written faults shortages old).draft)
  saw_later (batch ∷ batches) old new look = later_still (desk_of written faults shortages old).draft (desk_of written faults shortages look.0).draft (desk_of written faults shortages new).draft look.1.later (saw_later batches look.0 new look.2)
