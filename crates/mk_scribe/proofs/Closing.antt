-- How a record is ended.
use Rattle.std.proofs.Common.{◌≡◌, ◌≢◌, ◌⊎◌, ◌==◌, false, inl, inr, ℕ, ◌≤◌, Bool, true, List, [], ◌∷◌, ◌++◌, length, refl, sym, ap, ◌∙◌, subst, append_assoc, arith}
use Rattle.std.specs.Prelude.{IfSome, codes, take, drop}
use Rattle.std.specs.Fmt.{decimal}
use Rattle.std.proofs.lemmas.Bool.{eq-eqb, eqb-true}
use Rattle.std.proofs.lemmas.List.{take-append-drop}
use Rattle.mk_base.specs.Lists.{BeginsWith}
use Rattle.mk_base.proofs.Lists.{append_nil}
use Rattle.mk_outside.specs.Counts.{HasRisen}
use Rattle.mk_outside.specs.Sinks.{TookBeginning, TookText, appended}
use Rattle.mk_outside.specs.declared.sink.PutAll.{PutAll}
use Rattle.mk_outside.specs.declared.sink.PutAll.TheVariants as put
use Rattle.mk_plan.specs.declared.Plan.{Plan}
use Rattle.mk_plan.specs.declared.Entry.{Entry}
use Rattle.mk_record_read.specs.Texts.{record_text}
use Rattle.mk_scribe.specs.declared.sheet.Sheet.{Sheet}
use Rattle.mk_scribe.specs.declared.sheet.Writing.{Writing}
use Rattle.mk_scribe.specs.declared.sheet.Writing.TheVariants.{Unbegun, Begun, Lost}
use Rattle.mk_scribe.specs.Desks.{Closes, Makes, MakesOn}
use Rattle.mk_scribe.specs.Drafts.{Draft, HasRefused, IsLater}
use Rattle.mk_scribe.specs.Openings.{opening_text}
use Rattle.mk_scribe.specs.inner.Steps.{Ends, IsAll, Moves, PutsEnd, end_line}
use Rattle.mk_scribe.proofs.Pieces.{both_taken, none_taken, front_taken, next_taken}
use Rattle.mk_scribe.proofs.Texts.{beginning_made, beginning_of_record, if_appended, if_told, moved, record_is}

-- ---- counts

risen_later : (a b c : ℕ) → a ≤ b → HasRisen b c → HasRisen a c
risen_later a b c low (inl more) = inl (grind arith)
risen_later a b c low (inr last) = inr last

pub same_draft : (draft : Draft) → IsLater draft draft
same_draft draft = record {
  same = refl;
  more = [];
  grown = none_taken draft.written;
  faults = omega arith;
  shortages = omega arith;
}

pub later_still : (old mid new : Draft) → IsLater old mid → IsLater mid new → IsLater old new
later_still old mid new one two = record {
  same = two.same ∙ one.same;
  more = one.more ++ two.more;
  grown = both_taken one.more two.more old.written mid.written new.written one.grown two.grown;
  faults = let a = one.faults in let b = two.faults in grind arith;
  shortages = let a = one.shortages in let b = two.shortages in grind arith;
}

pub refused_later : (old mid new : Draft) → IsLater old mid → HasRefused mid new → HasRefused old new
refused_later old mid new one (inl fault) = inl (risen_later old.faults mid.faults new.faults one.faults fault)
refused_later old mid new one (inr want) = inr (risen_later old.shortages mid.shortages new.shortages one.shortages want)

-- ---- the `end` line, piece by piece

module _ (count : ℕ) (digits : List ℕ) (are : digits ≡ decimal count) where
  line_is : (codes "end " ++ digits) ++ codes "\n" ≡ end_line count
  line_is = ap (λ l. (codes "end " ++ l) ++ codes "\n") are

  short : (old new : Draft) → IsLater old new → TookBeginning ((codes "end " ++ digits) ++ codes "\n") old.written new.written → HasRefused old new → Ends old count new false
  short old new later took refused = record {
    later = later;
    put = (subst (λ line. TookBeginning line old.written new.written) line_is took, refused);
  }

  pub no_word : (old new : Draft) → IsLater old new → TookBeginning (codes "end ") old.written new.written × HasRefused old new → Ends old count new false
  no_word old new later some = short old new later
      (front_taken (codes "end " ++ digits) (codes "\n") old.written new.written (front_taken (codes "end ") digits old.written new.written some.0)) some.1

  pub no_digits : (old mid new : Draft) → IsLater old mid → IsLater mid new → mid.written ≡ appended (codes "end ") old.written → TookBeginning digits mid.written new.written × HasRefused mid new → Ends old count new false
  no_digits old mid new one two word some = short old new (later_still old mid new one two)
      (front_taken (codes "end " ++ digits) (codes "\n") old.written new.written (next_taken (codes "end ") digits old.written mid.written new.written word some.0)) (refused_later old mid new one some.1)

  pub last_piece : (old mid next new : Draft) → IsLater old mid → IsLater mid next → IsLater next new → mid.written ≡ appended (codes "end ") old.written → next.written ≡ appended digits mid.written
      → new.written ≡ appended (codes "\n") next.written → Ends old count new true
  last_piece old mid next new one two three word number feed = record {
    later = later_still old next new (later_still old mid next one two) three;
    put = (both_taken (codes "end " ++ digits) (codes "\n") old.written next.written new.written (both_taken (codes "end ") digits old.written mid.written next.written word number) feed ∙ ap (λ line. appended line old.written) line_is);
  }

  pub no_feed : (old mid next new : Draft) → IsLater old mid → IsLater mid next → IsLater next new → mid.written ≡ appended (codes "end ") old.written → next.written ≡ appended digits mid.written
      → TookBeginning (codes "\n") next.written new.written × HasRefused next new → Ends old count new false
  no_feed old mid next new one two three word number some = short old new (later_still old next new (later_still old mid next one two) three)
      (next_taken (codes "end " ++ digits) (codes "\n") old.written next.written new.written (both_taken (codes "end ") digits old.written mid.written next.written word number) some.0)
      (refused_later old next new (later_still old mid next one two) some.1)

-- a text was put, or a beginning of it
pub put_later : (r : PutAll) (text : List ℕ) (old new : Draft) → new.is_there ≡ old.is_there → old.faults ≤ new.faults → old.shortages ≤ new.shortages
    → TookText r text old.written new.written → IsLater old new
put_later put.Done text old new same faults shortages took = record { same = same; more = text; grown = took; faults = faults; shortages = shortages }
put_later put.Failed text old new same faults shortages took = record { same = same; more = take took.0 text; grown = took.2; faults = faults; shortages = shortages }
put_later put.Mem text old new same faults shortages took = record { same = same; more = take took.0 text; grown = took.2; faults = faults; shortages = shortages }

-- ---- what is left

pub none_left : (rest : List ℕ) → (length rest == 0) ≡ true → rest ≡ []
none_left [] is = refl
none_left (x ∷ rest) is = let e = eqb-true (length (x ∷ rest)) 0 is in absurd (grind arith)

pub some_left : (rest : List ℕ) → (length rest == 0) ≡ false → rest ≢ []
some_left rest is none = let e = eq-eqb (length rest) 0 (ap length none) in absurd cc

-- ---- the ends

not_begun : (v : Writing) → (v ≡ Unbegun) ⊎ (v ≡ Lost) → v ≡ Begun → ⊥
not_begun v (inl not) begun = cc
not_begun v (inr not) begun = cc

-- nothing is made on a sheet that wasn't begun, or was given up
idle : (draft : Draft) (sheet : Sheet) → draft.is_there ≡ true → (sheet.writing ≡ Unbegun) ⊎ (sheet.writing ≡ Lost) → Closes (record { draft = draft; sheet = sheet }) draft
idle draft sheet there not = record {
  later = same_draft draft;
  beginning = λ P J has. if_told draft.written (beginning_of_record P J) (beginning_made sheet.writing P J draft.written sheet.lines.items sheet.count (has there));
  whole = λ P J has begun. absurd (not_begun sheet.writing not begun);
}

pub closes_idle : (draft new : Draft) (sheet : Sheet) → draft ≡ new → new.is_there ≡ true → (sheet.writing ≡ Unbegun) ⊎ (sheet.writing ≡ Lost) → Closes (record { draft = draft; sheet = sheet }) new
closes_idle draft new sheet same there not = subst (λ old. Closes (record { draft = old; sheet = sheet }) new) (sym same) (idle new sheet there not)

-- some lines are left
pub short_refused : (draft new : Draft) (lines rest : List ℕ) → Moves draft lines new rest → rest ≢ [] → HasRefused draft new
short_refused draft new lines rest moves some = left moves.all
  where
    left : (rest ≡ []) ⊎ HasRefused draft new → HasRefused draft new
    left (inl none) = absurd (some none)
    left (inr refused) = refused

pub closes_short : (draft new : Draft) (sheet : Sheet) (rest : List ℕ) → draft.is_there ≡ true → Moves draft sheet.lines.items new rest → rest ≢ [] → Closes (record { draft = draft; sheet = sheet }) new
closes_short draft new sheet rest there moves some = record {
  later = moves.later;
  beginning = λ P J has. if_told new.written (beginning_of_record P J) (beginning_made sheet.writing P J new.written rest sheet.count
      (moved sheet.writing P J draft.written new.written sheet.lines.items rest sheet.count moves.done moves.put moves.left (has there)));
  whole = λ P J has begun. inr (short_refused draft new sheet.lines.items rest moves some);
}

-- all lines are there, and the last one is put behind them
module _ (P : Plan) (J : List Entry) (mid new : Draft) (rest : List ℕ) (count : ℕ) (none : rest ≡ []) (made : Makes Begun P J mid.written rest count) where
  opened : IfSome mid.written (λ bytes. bytes ≡ opening_text P J)
  opened = if_told mid.written (λ bytes all. sym (append_nil bytes) ∙ ap (λ l. bytes ++ l) (sym none) ∙ all) made.1

  ended : new.written ≡ appended (end_line count) mid.written → IfSome new.written (λ bytes. bytes ≡ record_text P J)
  ended put = if_appended (λ bytes. bytes ≡ record_text P J) (end_line count) mid.written new.written put (λ bytes all.
      ap (λ l. l ++ end_line count) all ∙ ap (λ n. opening_text P J ++ end_line n) made.0 ∙ sym (record_is P J)) opened

  whole_or_refused : (all : Bool) → PutsEnd all mid count new → IfSome new.written (λ bytes. bytes ≡ record_text P J) ⊎ HasRefused mid new
  whole_or_refused true put = inl (ended put)
  whole_or_refused false some = inr some.1

  begun_record : (n : ℕ) → new.written ≡ appended (take n (end_line count)) mid.written → IfSome new.written (λ bytes. BeginsWith (record_text P J) bytes)
  begun_record n put = if_appended (λ bytes. BeginsWith (record_text P J) bytes) (take n (end_line count)) mid.written new.written put (λ bytes all. (
    drop n (end_line count),
    record_is P J ∙ ap (λ k. opening_text P J ++ end_line k) (sym made.0) ∙ ap (λ l. l ++ end_line count) (sym all)
        ∙ ap (λ l. bytes ++ l) (sym (take-append-drop n (end_line count))) ∙ sym (append_assoc bytes (take n (end_line count)) (drop n (end_line count))),
  )) opened

  beginning_ended : (all : Bool) → PutsEnd all mid count new → IfSome new.written (λ bytes. BeginsWith (record_text P J) bytes)
  beginning_ended true put = if_told new.written (λ bytes all. ([], sym all ∙ sym (append_nil bytes))) (ended put)
  beginning_ended false some = begun_record some.0.0 some.0.2

module _ (draft mid new : Draft) (sheet : Sheet) (rest : List ℕ) (there : draft.is_there ≡ true) (begun : sheet.writing ≡ Begun) (moves : Moves draft sheet.lines.items mid rest) (none : rest ≡ []) where
  made : (P : Plan) (J : List Entry) → MakesOn sheet P J draft.written → Makes Begun P J mid.written rest sheet.count
  made P J m = moved Begun P J draft.written mid.written sheet.lines.items rest sheet.count moves.done moves.put moves.left (subst (λ (v : Writing). Makes v P J draft.written sheet.lines.items sheet.count) begun m)

  past : {X : Type 0} → X ⊎ HasRefused mid new → X ⊎ HasRefused draft new
  past (inl x) = inl x
  past (inr refused) = inr (refused_later draft mid new moves.later refused)

  pub closes : (all : Bool) → Ends mid sheet.count new all → Closes (record { draft = draft; sheet = sheet }) new
  closes all ends = record {
    later = later_still draft mid new moves.later ends.later;
    beginning = λ P J has. beginning_ended P J mid new rest sheet.count none (made P J (has there)) all ends.put;
    whole = λ P J has begun_then. past (whole_or_refused P J mid new rest sheet.count none (made P J (has there)) all ends.put);
  }

  -- all of it is there, or the draft has refused some
  pub all_or_refused : (all : Bool) → Ends mid sheet.count new all → IsAll all (record { draft = draft; sheet = sheet }) new
  all_or_refused true ends = λ P J has. ended P J mid new rest sheet.count none (made P J (has there)) ends.put
  all_or_refused false ends = refused_later draft mid new moves.later ends.put.1
