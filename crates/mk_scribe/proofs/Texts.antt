-- The text of a record as it grows.
use Rattle.std.proofs.Common.{◌≡◌, ◌≢◌, ◌⊎◌, inl, inr, ℕ, zero, suc, ◌+◌, true, ◌&&◌, List, [], ◌∷◌, ◌++◌, length, flat_map, Option, Some, None, refl, sym, ap, ◌∙◌, subst, append_assoc, length-append}
use Rattle.std.specs.Prelude.{IfSome, codes, take, drop}
use Rattle.std.specs.Fmt.{decimal}
use Rattle.std.specs.List.{list_all}
use Rattle.std.proofs.lemmas.List.{take-append-drop}
use Rattle.mk_base.specs.Lists.{BeginsWith}
use Rattle.mk_base.proofs.Lists.{append_nil, flat_map_append, filter_map_append}
use Rattle.mk_outside.specs.Sinks.{appended}
use Rattle.mk_plan.specs.declared.Plan.{Plan}
use Rattle.mk_plan.specs.declared.Entry.{Entry}
use Rattle.mk_plan.specs.declared.Entry.TheVariants.{Sent, Got}
use Rattle.mk_onlooker.specs.Showings.{AreInRange}
use Rattle.mk_record_read.specs.Entries.{entry_of, entries_of}
use Rattle.mk_record_read.specs.Texts.{entry_line, plan_text, record_text}
use Rattle.mk_record_write.specs.Writable.{is_writable}
use Rattle.mk_scribe.specs.declared.sheet.Sheet.{Sheet}
use Rattle.mk_scribe.specs.declared.sheet.Writing.{Writing}
use Rattle.mk_scribe.specs.declared.sheet.Writing.TheVariants.{Unbegun, Begun, Lost}
use Rattle.mk_scribe.specs.Desks.{Makes, MakesOn}
use Rattle.mk_scribe.specs.Openings.{opening_text}
use Rattle.mk_scribe.specs.inner.Steps.{IsGivenUp, end_line}

-- what is in range may be written
pub writable : (J : List Entry) → AreInRange J → list_all is_writable J ≡ true
writable [] h = refl
writable (Sent s item ∷ J) h = writable J (λ H t m more is. h (Sent s item ∷ H) t m more (ap (λ l. Sent s item ∷ l) is))
writable (Got s m ∷ J) h = ap (λ b. b && list_all is_writable J) (h [] s m J refl) ∙ writable J (λ H t n more is. h (Got s m ∷ H) t n more (ap (λ l. Got s m ∷ l) is))

-- what holds of the bytes that are told, by what held of them before
pub if_told : {X Y : List ℕ → Type 0} (written : Option (List ℕ)) → ((bytes : List ℕ) → X bytes → Y bytes) → IfSome written X → IfSome written Y
if_told None f x = tt
if_told (Some bytes) f x = f bytes x

-- ---- more entries

pub opening_more : (P : Plan) (J K : List Entry) → opening_text P (J ++ K) ≡ opening_text P J ++ flat_map entry_line (entries_of K)
opening_more P J K =
    ap (λ l. plan_text P ++ flat_map entry_line l) (filter_map_append entry_of J K)
    ∙ ap (λ l. plan_text P ++ l) (flat_map_append entry_line (entries_of J) (entries_of K))
    ∙ sym (append_assoc (plan_text P) (flat_map entry_line (entries_of J)) (flat_map entry_line (entries_of K)))

count_more : (J K : List Entry) → length (entries_of (J ++ K)) ≡ length (entries_of J) + length (entries_of K)
count_more J K = ap length (filter_map_append entry_of J K) ∙ length-append (entries_of J) (entries_of K)

-- what is made of a journal is the beginning of what is made of a longer one
pub beginning_made : (v : Writing) (P : Plan) (J : List Entry) (written : Option (List ℕ)) (lines : List ℕ) (count : ℕ) → Makes v P J written lines count → IfSome written (λ bytes. BeginsWith (opening_text P J) bytes)
beginning_made Unbegun P J written lines count m = if_told written (λ bytes none. (opening_text P J, ap (λ l. l ++ opening_text P J) (sym none))) m.3
beginning_made Begun P J written lines count m = if_told written (λ bytes all. (lines, sym all)) m.1
beginning_made Lost P J written lines count m = m.1

beginning_longer : (P : Plan) (J K : List Entry) (bytes : List ℕ) → BeginsWith (opening_text P J) bytes → BeginsWith (opening_text P (J ++ K)) bytes
beginning_longer P J K bytes b = (b.0 ++ flat_map entry_line (entries_of K), opening_more P J K ∙ ap (λ l. l ++ flat_map entry_line (entries_of K)) b.1 ∙ append_assoc bytes b.0 (flat_map entry_line (entries_of K)))

pub given_up : (old new : Sheet) (P : Plan) (J K : List Entry) (written : Option (List ℕ)) → IsGivenUp new → MakesOn old P J written → MakesOn new P (J ++ K) written
given_up old new P J K written gone m =
    subst (λ (v : Writing). Makes v P (J ++ K) written new.lines.items new.count) (sym gone.0)
    (gone.1, if_told written (beginning_longer P J K) (beginning_made old.writing P J written old.lines.items old.count m))

begun_more : (P : Plan) (J K : List Entry) (written : Option (List ℕ)) (lines new_lines : List ℕ) (count more new_count : ℕ)
    → new_lines ≡ lines ++ flat_map entry_line (entries_of K) → more ≡ length (entries_of K) → new_count ≡ count + more
    → Makes Begun P J written lines count → Makes Begun P (J ++ K) written new_lines new_count
begun_more P J K written lines new_lines count more new_count text one sum m = (
  sum ∙ ap (λ n. n + more) m.0 ∙ ap (λ n. length (entries_of J) + n) one ∙ sym (count_more J K),
  if_told written (λ bytes all.
      ap (λ l. bytes ++ l) text ∙ sym (append_assoc bytes lines (flat_map entry_line (entries_of K)))
      ∙ ap (λ l. l ++ flat_map entry_line (entries_of K)) all ∙ sym (opening_more P J K)) m.1,
)

-- lines of entries were made and counted, or the record was given up
pub goes_on : (old new : Sheet) (P : Plan) (J K : List Entry) (written : Option (List ℕ)) (lines : List ℕ) (more : ℕ) → old.writing ≡ Begun
    → lines ≡ old.lines.items ++ flat_map entry_line (entries_of K) → more ≡ length (entries_of K)
    → IsGivenUp new ⊎ ((new.count ≡ old.count + more) × (new.lines.items ≡ lines) × (new.writing ≡ old.writing))
    → MakesOn old P J written → MakesOn new P (J ++ K) written
goes_on old new P J K written lines more begun text one (inl gone) m = given_up old new P J K written gone m
goes_on old new P J K written lines more begun text one (inr done) m =
    subst (λ (v : Writing). Makes v P (J ++ K) written new.lines.items new.count) (sym (done.2 ∙ begun))
    (begun_more P J K written old.lines.items new.lines.items old.count more new.count (done.1 ∙ text) one done.0
    (subst (λ (v : Writing). Makes v P J written old.lines.items old.count) begun m))

-- nothing is made for a record that was given up
pub idle : (old : Sheet) (P : Plan) (J K : List Entry) (written : Option (List ℕ)) → old.writing ≢ Unbegun → (old.writing ≡ Unbegun) ⊎ (old.writing ≡ Lost) → MakesOn old P J written → MakesOn old P (J ++ K) written
idle old P J K written begun (inl not) m = absurd (begun not)
idle old P J K written begun (inr lost) m = given_up old old P J K written (lost, (subst (λ (v : Writing). Makes v P J written old.lines.items old.count) lost m).0) m

-- ---- lines that are moved

nothing_left : (n : ℕ) (lines : List ℕ) → lines ≡ [] → drop n lines ≡ []
nothing_left zero lines none = none
nothing_left (suc n) [] none = refl
nothing_left (suc n) (x ∷ lines) none = absurd cc

nothing_moved : (n : ℕ) (lines bytes : List ℕ) → lines ≡ [] → bytes ++ take n lines ≡ bytes
nothing_moved zero lines bytes none = append_nil bytes
nothing_moved (suc n) [] bytes none = append_nil bytes
nothing_moved (suc n) (x ∷ lines) bytes none = absurd cc

-- what is told behind a piece
pub if_appended : {X : List ℕ → Type 0} (Y : List ℕ → Type 0) (piece : List ℕ) (written new : Option (List ℕ)) → new ≡ appended piece written → ((bytes : List ℕ) → X bytes → Y (bytes ++ piece)) → IfSome written X → IfSome new Y
if_appended Y piece None new is f x = subst (λ w. IfSome w Y) (sym is) tt
if_appended Y piece (Some bytes) new is f x = subst (λ w. IfSome w Y) (sym is) (f bytes x)

pub moved : (v : Writing) (P : Plan) (J : List Entry) (written new : Option (List ℕ)) (lines rest : List ℕ) (count n : ℕ)
    → new ≡ appended (take n lines) written → rest ≡ drop n lines → Makes v P J written lines count → Makes v P J new rest count
moved Unbegun P J written new lines rest count n put left m =
    (m.0, m.1, left ∙ nothing_left n lines m.2, if_appended (λ bytes. bytes ≡ []) (take n lines) written new put (λ bytes none. nothing_moved n lines bytes m.2 ∙ none) m.3)
moved Begun P J written new lines rest count n put left m = (
  m.0,
  if_appended (λ bytes. bytes ++ rest ≡ opening_text P J) (take n lines) written new put (λ bytes all.
      ap (λ l. (bytes ++ take n lines) ++ l) left ∙ append_assoc bytes (take n lines) (drop n lines)
      ∙ ap (λ l. bytes ++ l) (take-append-drop n lines) ∙ all) m.1,
)
moved Lost P J written new lines rest count n put left m = (
  left ∙ nothing_left n lines m.0,
  if_appended (λ bytes. BeginsWith (opening_text P J) bytes) (take n lines) written new put (λ bytes b.
      (b.0, b.1 ∙ ap (λ l. l ++ b.0) (sym (nothing_moved n lines bytes m.0)))) m.1,
)

-- ---- the last line

pub record_is : (P : Plan) (J : List Entry) → record_text P J ≡ opening_text P J ++ end_line (length (entries_of J))
record_is P J = ap (λ l. l ++ codes "\n") (append_assoc (opening_text P J) (codes "end ") (decimal (length (entries_of J)))) ∙ append_assoc (opening_text P J) (codes "end " ++ decimal (length (entries_of J))) (codes "\n")

pub beginning_of_record : (P : Plan) (J : List Entry) (bytes : List ℕ) → BeginsWith (opening_text P J) bytes → BeginsWith (record_text P J) bytes
beginning_of_record P J bytes b =
    (b.0 ++ end_line (length (entries_of J)), record_is P J ∙ ap (λ l. l ++ end_line (length (entries_of J))) b.1 ∙ append_assoc bytes b.0 (end_line (length (entries_of J))))
