-- What a line that goes on adds: the lines of entries are those whose word is `ask` or `got`.
use Rattle.std.proofs.Common.{◌≡◌, ℕ, ◌+◌, ◌≤◌, Bool, true, false, cond, List, [], ◌∷◌, ◌++◌, length, length-append, Option, Some, None, Result, Ok, Err, refl, sym, ap, ◌∙◌, subst, arith}
use Rattle.std.specs.Prelude.{codes, is_none, not, unwrap_or, ◌&&◌, ◌||◌}
use Rattle.std.specs.Fmt.{decimal}
use Rattle.mk_base.specs.Lists.{same_text}
use Rattle.mk_base.proofs.Guessing.{text_is}
use Rattle.mk_plan.specs.declared.Plan.{Plan}
use Rattle.mk_plan.specs.Journals.{Arrival}
use Rattle.mk_plan_check.specs.Tests.{first_bad}
use Rattle.mk_message.specs.Messages.{tested}
use Rattle.mk_record_read.specs.declared.kinds.LineKind.{LineKind}
use Rattle.mk_record_read.specs.declared.kinds.LineKind.TheVariants.{Head, Run, Sim, Model, Entity, Conn, Async, Ask, Got, End}
use Rattle.mk_record_read.specs.declared.saved.Asked.{Asked}
use Rattle.mk_record_read.specs.Fields.{misformed}
use Rattle.mk_record_read.specs.Lines.{arrival_in, asked_in}
use Rattle.mk_record_read.specs.Reading.{State, Step, Going, Ended, Bad, arrived, asked, ends_plan, invalid, is_number, is_second, items_read, kind_of_word, kind_step, known_step, line_step, may_stand, miscounted, part_step, place, planned, rest_of, steps_in, with_part, word_of}
use Rattle.mk_record_mend.specs.Mended.{is_entry}

-- the word of a line says that it is an entry
abbrev says : List ℕ → Bool
says word = same_text word (codes "ask") || same_text word (codes "got")

abbrev pub is_entry_kind : LineKind → Bool
is_entry_kind Head = false
is_entry_kind Run = false
is_entry_kind Sim = false
is_entry_kind Model = false
is_entry_kind Entity = false
is_entry_kind Conn = false
is_entry_kind Async = false
is_entry_kind Ask = true
is_entry_kind Got = true
is_entry_kind End = false

abbrev Says : List ℕ → Option LineKind → Type 0
Says w o = (j : LineKind) → o ≡ Some j → says w ≡ is_entry_kind j

some_kind : (k j : LineKind) → Some k ≡ Some j → k ≡ j
some_kind k j e = ap (λ (o : Option LineKind). unwrap_or o k) e

named : (w name : List ℕ) (k : LineKind) (rest : Option LineKind) → says name ≡ is_entry_kind k → Says w rest → Says w (cond (same_text w name) (Some k) rest)
named w name k rest known after j e = elim (same_text w name) as (λ b. same_text w name ≡ b → cond b (Some k) rest ≡ Some j → says w ≡ is_entry_kind j) [
  | true ↦ λ is some. ap says (text_is w name is) ∙ known ∙ ap is_entry_kind (some_kind k j some)
  | false ↦ λ is some. after j some
] refl e

named_ask : (second : Bool) (w : List ℕ) (rest : Option LineKind) → Says w rest → Says w (cond (second && same_text w (codes "ask")) (Some Ask) rest)
named_ask true w rest after = named w (codes "ask") Ask rest refl after
named_ask false w rest after = after

nothing : (w : List ℕ) → Says w None
nothing w j e = absurd (grind (arith, e))

pub kind_says : (second : Bool) (w : List ℕ) → Says w (kind_of_word second w)
kind_says second w =
    named w (codes "mosaikrun") Head _ refl (named w (codes "run") Run _ refl (named w (codes "sim") Sim _ refl (named w (codes "model") Model _ refl (named w (codes "entity") Entity _ refl
    (named w (codes "conn") Conn _ refl (named w (codes "async") Async _ refl (named w (codes "got") Got _ refl (named_ask second w _ (named w (codes "end") End None refl (nothing w))))))))))

-- how many lines of entries there are so far
abbrev pub lines_in : State → ℕ
lines_in S = length S.arrivals + length (steps_in S)

-- before the first line there are no steps
abbrev pub IsFresh : State → Type 0
IsFresh S = S.last ≡ 0 → length (steps_in S) ≡ 0

-- what a line adds
pub record Moved (S T : State) (entry : Bool) : Type 0 where
  pub count : lines_in T ≡ lines_in S + cond entry 1 0
  pub last : entry ≡ true → T.last ≡ 8
  pub later : 1 ≤ T.last

same_state : (S T : State) → Going S ≡ Going T → S ≡ T
same_state S T e = ap (λ (s : Step). elim s [ Going U ↦ U | Ended ↦ S | Bad n ↦ S ]) e

to_state : (S T U : State) (entry : Bool) → Going U ≡ Going T → Moved S U entry → Moved S T entry
to_state S T U entry e m = subst (λ (V : State). Moved S V entry) (same_state U T e) m

planned_moves : (S T : State) (kind : LineKind) (r : Result Plan ℕ) → 1 ≤ place kind → planned S kind r ≡ Going T → Moved S T false
planned_moves S T kind (Ok P) low e = to_state S T (record { last = place kind; plan = P; arrivals = S.arrivals; asks = S.asks }) false e (record { count = omega arith; last = λ h. absurd (grind (arith, h)); later = low })
planned_moves S T kind (Err n) low e = absurd (grind (arith, e))

arrived_moves : (S T : State) (r : Result Arrival ℕ) → arrived S r ≡ Going T → Moved S T true
arrived_moves S T (Ok a) e = to_state S T (record { last = place Got; plan = S.plan; arrivals = S.arrivals ++ a ∷ []; asks = S.asks }) true e
    (record { count = (let h = length-append S.arrivals (a ∷ []) in omega (arith, h)); last = λ h. refl; later = omega arith })
arrived_moves S T (Err n) e = absurd (grind (arith, e))

asked_moves : (S T : State) (r : Result Asked ℕ) → asked S (steps_in S) r ≡ Going T → Moved S T true
asked_moves S T (Ok a) e = to_state S T (record { last = place Ask; plan = S.plan; arrivals = S.arrivals; asks = Some (steps_in S ++ a ∷ []) }) true e
    (record { count = (let h = length-append (steps_in S) (a ∷ []) in omega (arith, h)); last = λ h. refl; later = omega arith })
asked_moves S T (Err n) e = absurd (grind (arith, e))

-- the first line may stand at the beginning alone
head_last : (last : ℕ) → may_stand last Head ≡ true → last ≡ 0
head_last last h = grind (arith, h)

headed : (S T : State) (asks : Option (List Asked)) → length (unwrap_or asks []) ≡ 0 → length (steps_in S) ≡ 0 → Going (record S { last = place Head; asks = asks }) ≡ Going T → Moved S T false
headed S T asks new old e = to_state S T (record S { last = place Head; asks = asks }) false e (record { count = omega (arith, new, old); last = λ h. absurd (grind (arith, h)); later = omega arith })

head_moves : (S T : State) (text : List ℕ) (one two : Bool) → length (steps_in S) ≡ 0
    → cond one (Going (record S { last = place Head; asks = None })) (cond two (Going (record S { last = place Head; asks = Some [] })) (Bad misformed)) ≡ Going T → Moved S T false
head_moves S T text true two old e = headed S T None refl old e
head_moves S T text false true old e = headed S T (Some []) refl old e
head_moves S T text false false old e = absurd (grind (arith, e))

end_stays : (T : State) (same number : Bool) → cond same Ended (cond number (Bad miscounted) (Bad misformed)) ≡ Going T → ⊥
end_stays T true number e = grind (arith, e)
end_stays T false true e = grind (arith, e)
end_stays T false false e = grind (arith, e)

part_moves : (S T : State) (kind : LineKind) (text : List ℕ) → IsFresh S → may_stand S.last kind ≡ true → part_step S kind text ≡ Going T → Moved S T (is_entry_kind kind)
part_moves S T Head text fresh may e = head_moves S T text (same_text text (codes "1")) (same_text text (codes "2")) (fresh (head_last S.last may)) e
part_moves S T Run text fresh may e = planned_moves S T Run (tested misformed (items_read text) (with_part (is_second S) Run S.plan)) (omega arith) e
part_moves S T Sim text fresh may e = planned_moves S T Sim (tested misformed (items_read text) (with_part (is_second S) Sim S.plan)) (omega arith) e
part_moves S T Model text fresh may e = planned_moves S T Model (tested misformed (items_read text) (with_part (is_second S) Model S.plan)) (omega arith) e
part_moves S T Entity text fresh may e = planned_moves S T Entity (tested misformed (items_read text) (with_part (is_second S) Entity S.plan)) (omega arith) e
part_moves S T Conn text fresh may e = planned_moves S T Conn (tested misformed (items_read text) (with_part (is_second S) Conn S.plan)) (omega arith) e
part_moves S T Async text fresh may e = planned_moves S T Async (tested misformed (items_read text) (with_part (is_second S) Async S.plan)) (omega arith) e
part_moves S T Ask text fresh may e = asked_moves S T (tested misformed (items_read text) (asked_in S.plan (length S.arrivals))) e
part_moves S T Got text fresh may e = arrived_moves S T (tested misformed (items_read text) (arrival_in S.plan)) e
part_moves S T End text fresh may e = absurd (end_stays T (same_text text (decimal (lines_in S))) (is_number text) e)

kind_moves : (S T : State) (kind : LineKind) (text : List ℕ) (early may : Bool) → may_stand S.last kind ≡ may → IsFresh S → cond early (Bad invalid) (cond may (part_step S kind text) (Bad misformed)) ≡ Going T → Moved S T (is_entry_kind kind)
kind_moves S T kind text true may is fresh e = absurd (grind (arith, e))
kind_moves S T kind text false true is fresh e = part_moves S T kind text fresh is e
kind_moves S T kind text false false is fresh e = absurd (grind (arith, e))

known_moves : (S T : State) (k : Option LineKind) (text : List ℕ) (entry : Bool) → ((j : LineKind) → k ≡ Some j → entry ≡ is_entry_kind j) → IsFresh S → known_step S k text ≡ Going T → Moved S T entry
known_moves S T None text entry are fresh e = absurd (grind (arith, e))
known_moves S T (Some kind) text entry are fresh e = subst (Moved S T) (sym (are kind refl)) (kind_moves S T kind text (ends_plan S.last kind && not (is_none (first_bad S.plan))) (may_stand S.last kind) refl fresh e)

-- a line that goes on
pub line_moves : (S T : State) (line : List ℕ) → IsFresh S → line_step S line ≡ Going T → Moved S T (is_entry line)
line_moves S T line fresh e = known_moves S T (kind_of_word (is_second S) (word_of line)) (rest_of line) (is_entry line) (kind_says (is_second S) (word_of line)) fresh e

-- ---- a line that ends the record

asked_goes : (S : State) (r : Result Asked ℕ) → asked S (steps_in S) r ≡ Ended → ⊥
asked_goes S (Ok a) e = grind (arith, e)
asked_goes S (Err n) e = grind (arith, e)

arrived_goes : (S : State) (r : Result Arrival ℕ) → arrived S r ≡ Ended → ⊥
arrived_goes S (Ok a) e = grind (arith, e)
arrived_goes S (Err n) e = grind (arith, e)

part_ends : (S : State) (kind : LineKind) (text : List ℕ) → part_step S kind text ≡ Ended → is_entry_kind kind ≡ false
part_ends S Head text e = refl
part_ends S Run text e = refl
part_ends S Sim text e = refl
part_ends S Model text e = refl
part_ends S Entity text e = refl
part_ends S Conn text e = refl
part_ends S Async text e = refl
part_ends S Ask text e = absurd (asked_goes S (tested misformed (items_read text) (asked_in S.plan (length S.arrivals))) e)
part_ends S Got text e = absurd (arrived_goes S (tested misformed (items_read text) (arrival_in S.plan)) e)
part_ends S End text e = refl

kind_ends : (S : State) (kind : LineKind) (text : List ℕ) (early may : Bool) → cond early (Bad invalid) (cond may (part_step S kind text) (Bad misformed)) ≡ Ended → part_step S kind text ≡ Ended
kind_ends S kind text true may e = absurd (grind (arith, e))
kind_ends S kind text false true e = e
kind_ends S kind text false false e = absurd (grind (arith, e))

known_ends : (S : State) (k : Option LineKind) (text : List ℕ) (entry : Bool) → ((j : LineKind) → k ≡ Some j → entry ≡ is_entry_kind j) → known_step S k text ≡ Ended → entry ≡ false
known_ends S None text entry are e = absurd (grind (arith, e))
known_ends S (Some kind) text entry are e = are kind refl ∙ part_ends S kind text (kind_ends S kind text (ends_plan S.last kind && not (is_none (first_bad S.plan))) (may_stand S.last kind) e)

pub line_ends : (S : State) (line : List ℕ) → line_step S line ≡ Ended → is_entry line ≡ false
line_ends S line e = known_ends S (kind_of_word (is_second S) (word_of line)) (rest_of line) (is_entry line) (kind_says (is_second S) (word_of line)) e

-- the word `end`
end_kind : (second : Bool) → kind_of_word second (codes "end") ≡ Some End
end_kind true = refl
end_kind false = refl

pub end_named : (S : State) (text : List ℕ) → line_step S (codes "end " ++ text) ≡ kind_step S End text
end_named S text = ap (λ k. known_step S k text) (end_kind (is_second S))

ended_same : (same number : Bool) → cond same Ended (cond number (Bad miscounted) (Bad misformed)) ≡ Ended → same ≡ true
ended_same true number e = refl
ended_same false true e = absurd (grind (arith, e))
ended_same false false e = absurd (grind (arith, e))

-- its number is that of the lines so far
pub end_counts : (S : State) (text : List ℕ) → line_step S (codes "end " ++ text) ≡ Ended → text ≡ decimal (lines_in S)
end_counts S text e =
    let part = kind_ends S End text (ends_plan S.last End && not (is_none (first_bad S.plan))) (may_stand S.last End) (sym (end_named S text) ∙ e) in
    text_is text (decimal (lines_in S)) (ended_same (same_text text (decimal (lines_in S))) (is_number text) part)
