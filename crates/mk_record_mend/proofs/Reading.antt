-- How a text is read whose end changes.
use Rattle.std.proofs.Common.{◌≡◌, ℕ, ◌+◌, ◌^◌, ◌<◌, ◌≤◌, Bool, true, false, cond, List, [], ◌∷◌, ◌++◌, inl, inr, ◌⊎◌, length, length-append, Option, refl, sym, ap, ◌∙◌, subst, arith}
use Rattle.std.specs.Prelude.{codes, is_none, not, ◌&&◌}
use Rattle.std.specs.Fmt.{decimal}
use Rattle.std.specs.List.{filter, list_all, slice_split}
use Rattle.std.proofs.lemmas.Bool.{and_parts}
use Rattle.std.proofs.lemmas.List.Sums.{count_by-le-length, length-filter}
use Rattle.mk_base.specs.Lists.{same_text}
use Rattle.mk_base.proofs.Items.{same_text_self}
use Rattle.mk_base.proofs.Lists.{append_nil}
use Rattle.mk_plan.specs.declared.Plan.{Plan}
use Rattle.mk_plan.specs.Journals.{Arrival}
use Rattle.mk_plan_check.specs.Tests.{first_bad}
use Rattle.mk_record_read.specs.declared.kinds.LineKind.TheVariants.{End}
use Rattle.mk_record_read.specs.declared.saved.Asked.{Asked}
use Rattle.mk_record_read.specs.Fields.{misformed}
use Rattle.mk_record_read.specs.Reading.{Bad, Ended, Faulty, Going, Reading, Said, State, Step, before_lines, ends_plan, invalid, is_feed, is_number, line_step, may_stand, miscounted, overlong, reading, reading_from, unended}
use Rattle.mk_record_read.proofs.Splitting.{reads_bad, reads_end, reads_more, reads_on}
use Rattle.mk_record_laws.proofs.Clean.{all_clean, clean-append, clean-decimal}
use Rattle.mk_record_laws.proofs.Lines.{Reads, a_line, cut_line, joined, nothing}
use Rattle.mk_record_mend.specs.Mended.{end_line, ends_in_entry, is_entry, mended, text_of_lines, whole_lines}
use Rattle.mk_record_mend.specs.Whole.{Leads}
use Rattle.mk_record_mend.proofs.Counting.{fresh_before, leads_count, leads_last}
use Rattle.mk_record_mend.proofs.EntryKinds.{end_counts, end_named, line_ends, lines_in}
use Rattle.mk_record_mend.proofs.Pieces.{cut_off, is_left, is_mended, parts, split_clean}

-- what a line may make of a state
abbrev Steps : State → List ℕ → Type 0
Steps S line = ((U : State) × (line_step S line ≡ Going U)) ⊎ ((line_step S line ≡ Ended) ⊎ ((k : ℕ) × (line_step S line ≡ Bad k)))

step_is : (S : State) (line : List ℕ) (s : Step) → line_step S line ≡ s → Steps S line
step_is S line (Going U) e = inl (U, e)
step_is S line Ended e = inr (inl e)
step_is S line (Bad k) e = inr (inr (k, e))

steps : (S : State) (line : List ℕ) → Steps S line
steps S line = step_is S line (line_step S line) refl

-- the reading of a text that begins with a line
abbrev after_line : State → ℕ → List ℕ → List ℕ → List ℕ → Reading
after_line S n line text rest = reading_from S n (slice_split is_feed (((line ++ codes "\n") ++ text) ++ rest))

goes_on : (S U : State) (n : ℕ) (line text rest : List ℕ) → all_clean line ≡ true → line_step S line ≡ Going U → after_line S n line text rest ≡ reading_from U (n + 1) (slice_split is_feed (text ++ rest))
goes_on S U n line text rest h e = ap (reading_from S n) (cut_off line text rest h) ∙ reads_on S U n line (text ++ rest) e

goes_wrong : (S : State) (n k : ℕ) (line text rest : List ℕ) → all_clean line ≡ true → line_step S line ≡ Bad k → after_line S n line text rest ≡ Faulty n k
goes_wrong S n k line text rest h e = ap (reading_from S n) (cut_off line text rest h) ∙ reads_bad S n k line (text ++ rest) e

goes_beyond : (S : State) (n b : ℕ) (line text rest bs : List ℕ) → all_clean line ≡ true → line_step S line ≡ Ended → text ++ rest ≡ b ∷ bs → after_line S n line text rest ≡ Faulty (n + 1) overlong
goes_beyond S n b line text rest bs h e more = ap (reading_from S n) (cut_off line text rest h) ∙ ap (λ t. reading_from S n (line ∷ slice_split is_feed t)) more ∙ reads_more S n line b bs e

-- a text that ends in the middle of a line
stops : (S : State) (n : ℕ) (piece : List ℕ) → all_clean piece ≡ true → reading_from S n (slice_split is_feed piece) ≡ Faulty n unended
stops S n piece h = ap (reading_from S n) (split_clean piece h)

-- some lines are a text that isn't empty
filled : (line text rest : List ℕ) → (b : ℕ) × (bs : List ℕ) × (((line ++ codes "\n") ++ text) ++ rest ≡ b ∷ bs)
filled [] text rest = (10, text ++ rest, refl)
filled (b ∷ line) text rest = (b, ((line ++ codes "\n") ++ text) ++ rest, refl)

not_said : (P : Plan) (A : List Arrival) (s : Option (List Asked)) (n k : ℕ) → Faulty n k ≡ Said P A s → ⊥
not_said P A s n k e = grind (arith, e)

fault_same : (n k l j : ℕ) → Faulty n k ≡ Faulty l j → k ≡ j
fault_same n k l j e = grind (arith, e)

headed : (lines : List (List ℕ)) (b : ℕ) (rest : List ℕ) → (c : ℕ) × (cs : List ℕ) × (text_of_lines lines ++ (b ∷ rest) ≡ c ∷ cs)
headed [] b rest = (b, rest, refl)
headed (line ∷ lines) b rest = filled line (text_of_lines lines) (b ∷ rest)

-- ---- a record that is whole

said_lines : (P : Plan) (A : List Arrival) (s : Option (List Asked)) (piece : List ℕ) → all_clean piece ≡ true → (lines : List (List ℕ)) → list_all all_clean lines ≡ true → (S : State) (n : ℕ)
    → reading_from S n (slice_split is_feed (text_of_lines lines ++ piece)) ≡ Said P A s → ends_in_entry lines ≡ false
said_lines P A s piece h [] all S n e = refl
said_lines P A s piece h (line ∷ []) all S n e = let c = (and_parts (all_clean line) true all).0 in elim (steps S line) [
  | inl g ↦ absurd (not_said P A s (n + 1) unended (sym (goes_on S g.0 n line [] piece c g.1 ∙ stops g.0 (n + 1) piece h) ∙ e))
  | inr w ↦ elim w [ inl d ↦ line_ends S line d | inr k ↦ absurd (not_said P A s n k.0 (sym (goes_wrong S n k.0 line [] piece c k.1) ∙ e)) ]
]
said_lines P A s piece h (line ∷ next ∷ lines) all S n e =
    let c = and_parts (all_clean line) (list_all all_clean (next ∷ lines)) all in
    let text : List ℕ = text_of_lines (next ∷ lines) in elim (steps S line) [
      | inl g ↦ said_lines P A s piece h (next ∷ lines) c.1 g.0 (n + 1) (sym (goes_on S g.0 n line text piece c.0 g.1) ∙ e)
      | inr w ↦ elim w [
        | inl d ↦ let f = filled next (text_of_lines lines) piece in absurd (not_said P A s (n + 1) overlong (sym (goes_beyond S n f.0 line text piece f.1 c.0 d f.2) ∙ e))
        | inr k ↦ absurd (not_said P A s n k.0 (sym (goes_wrong S n k.0 line text piece c.0 k.1) ∙ e))
      ]
    ]

pub whole_left : (bytes : List ℕ) (P : Plan) (A : List Arrival) (s : Option (List Asked)) → reading bytes ≡ Said P A s → mended bytes ≡ bytes
whole_left bytes P A s e = let p = parts bytes in is_left bytes (said_lines P A s p.piece p.clean (whole_lines bytes) p.lines before_lines 1 (ap reading (sym p.whole) ∙ e))

-- ---- a record with a fault

faulty_lines : (l j : ℕ) → (j ≡ unended → ⊥) → (piece : List ℕ) → all_clean piece ≡ true → (b : ℕ) (end : List ℕ) → (lines : List (List ℕ)) → list_all all_clean lines ≡ true → ends_in_entry lines ≡ true → (S : State) (n : ℕ)
    → reading_from S n (slice_split is_feed (text_of_lines lines ++ piece)) ≡ Faulty l j → reading_from S n (slice_split is_feed (text_of_lines lines ++ (b ∷ end))) ≡ Faulty l j
faulty_lines l j other piece h b end [] all ends S n e = absurd (grind (arith, ends))
faulty_lines l j other piece h b end (line ∷ []) all ends S n e = let c = (and_parts (all_clean line) true all).0 in elim (steps S line) [
  | inl g ↦ absurd (other (sym (fault_same (n + 1) unended l j (sym (goes_on S g.0 n line [] piece c g.1 ∙ stops g.0 (n + 1) piece h) ∙ e))))
  | inr w ↦ elim w [
    | inl d ↦ (let no = line_ends S line d in absurd (grind (arith, ends, no)))
    | inr k ↦ goes_wrong S n k.0 line [] (b ∷ end) c k.1 ∙ sym (goes_wrong S n k.0 line [] piece c k.1) ∙ e
  ]
]
faulty_lines l j other piece h b end (line ∷ next ∷ lines) all ends S n e =
    let c = and_parts (all_clean line) (list_all all_clean (next ∷ lines)) all in
    let text : List ℕ = text_of_lines (next ∷ lines) in elim (steps S line) [
      | inl g ↦ goes_on S g.0 n line text (b ∷ end) c.0 g.1 ∙ faulty_lines l j other piece h b end (next ∷ lines) c.1 ends g.0 (n + 1) (sym (goes_on S g.0 n line text piece c.0 g.1) ∙ e)
      | inr w ↦ elim w [
        | inl d ↦ (let f = filled next (text_of_lines lines) piece in
            let m = filled next (text_of_lines lines) (b ∷ end) in
            goes_beyond S n m.0 line text (b ∷ end) m.1 c.0 d m.2 ∙ sym (goes_beyond S n f.0 line text piece f.1 c.0 d f.2) ∙ e)
        | inr k ↦ goes_wrong S n k.0 line text (b ∷ end) c.0 k.1 ∙ sym (goes_wrong S n k.0 line text piece c.0 k.1) ∙ e
      ]
    ]

pub fault_stays : (bytes : List ℕ) (l j : ℕ) → reading bytes ≡ Faulty l j → (j ≡ unended → ⊥) → reading (mended bytes) ≡ Faulty l j
fault_stays bytes l j e other =
    let p = parts bytes in
    let number : List ℕ = decimal (length (filter is_entry (whole_lines bytes))) in
    elim (ends_in_entry (whole_lines bytes)) as (λ b. ends_in_entry (whole_lines bytes) ≡ b → reading (mended bytes) ≡ Faulty l j) [
      | true ↦ λ ends. ap reading (is_mended bytes ends) ∙ faulty_lines l j other p.piece p.clean 101 (110 ∷ 100 ∷ 32 ∷ (number ++ codes "\n")) (whole_lines bytes) p.lines ends before_lines 1 (ap reading (sym p.whole) ∙ e)
      | false ↦ λ ends. ap reading (is_left bytes ends) ∙ e
    ] refl

-- ---- a record whose whole lines are right

leads_reads : (lines : List (List ℕ)) → list_all all_clean lines ≡ true → (S T : State) → Leads S lines T → Reads S (text_of_lines lines) T
leads_reads [] all S T same = subst (Reads S []) same (nothing S)
leads_reads (line ∷ lines) all S T led =
    let c = and_parts (all_clean line) (list_all all_clean lines) all in
    joined S led.0 T (line ++ codes "\n") (text_of_lines lines) (a_line S led.0 line c.0 led.1) (leads_reads lines c.1 led.0 T led.2)

end_kinds : (last : ℕ) (P : Plan) (same number : Bool) → last ≡ 8 → same ≡ true → cond (ends_plan last End && not (is_none (first_bad P))) (Bad invalid) (cond (may_stand last End) (cond same Ended (cond number (Bad miscounted) (Bad misformed))) (Bad misformed)) ≡ Ended
end_kinds last P same number eight is = rw (eight, is) refl

end_taken : (T : State) (n : ℕ) → T.last ≡ 8 → lines_in T ≡ n → line_step T (codes "end " ++ decimal n) ≡ Ended
end_taken T n last is =
    let text : List ℕ = decimal (lines_in T) in
    subst (λ m. line_step T (codes "end " ++ decimal m) ≡ Ended) is
    (end_named T text ∙ end_kinds T.last T.plan (same_text text text) (is_number text) last (same_text_self text))

-- as many entries as bytes at most
text_long : (lines : List (List ℕ)) → length lines ≤ length (text_of_lines lines)
text_long [] = omega arith
text_long (line ∷ lines) =
    let a = text_long lines in
    let b = length-append (line ++ codes "\n") (text_of_lines lines) in
    let c = length-append line (codes "\n") in
    omega (arith, a, b, c)

few_entries : (bytes : List ℕ) → length (filter is_entry (whole_lines bytes)) ≤ length bytes
few_entries bytes =
    let p = parts bytes in
    let lines = whole_lines bytes in
    let a = length-filter is_entry lines in
    let b = count_by-le-length is_entry lines in
    let c = text_long lines in
    let d = length-append (text_of_lines lines) p.piece in
    let e = ap length p.whole in
    omega (arith, a, b, c, d, e)

-- the last line of a record, after lines that lead to a state
pub end_reads : (lines : List (List ℕ)) → list_all all_clean lines ≡ true → (T : State) (n : ℕ) → n < 2 ^ 64 → Leads before_lines lines T → line_step T (codes "end " ++ decimal n) ≡ Ended
    → reading (text_of_lines lines ++ end_line n) ≡ Said T.plan T.arrivals T.asks
end_reads lines all T n low led ended =
    let end : List ℕ = codes "end " ++ decimal n in
    let last = leads_reads lines all before_lines T led 1 ((end ++ codes "\n") ++ []) in
    ap (λ t. reading_from before_lines 1 (slice_split is_feed (text_of_lines lines ++ t))) (sym (append_nil (end ++ codes "\n")))
    ∙ last.1
    ∙ ap (reading_from T last.0) (cut_line end [] (clean-append (codes "end ") (decimal n) refl (clean-decimal n low)))
    ∙ reads_end T last.0 end [] ended refl

pub lines_read : (bytes : List ℕ) (T : State) → length bytes < 2 ^ 64 → Leads before_lines (whole_lines bytes) T → ends_in_entry (whole_lines bytes) ≡ true → reading (mended bytes) ≡ Said T.plan T.arrivals T.asks
lines_read bytes T short led ends =
    let lines = whole_lines bytes in
    let few = few_entries bytes in
    let all = leads_count lines before_lines T fresh_before led in
    let count : lines_in T ≡ length (filter is_entry lines) = omega (arith, all) in
    ap reading (is_mended bytes ends)
    ∙ end_reads lines (parts bytes).lines T (length (filter is_entry lines)) (omega (arith, few, short)) led (end_taken T (length (filter is_entry lines)) (leads_last lines before_lines T fresh_before led ends) count)

-- ---- the number of an `end` line

-- what is read of lines and a text after them is read of that text, once the lines have led to a state
abbrev Led : List (List ℕ) → List ℕ → Reading → State → Type 0
Led lines rest said S = (T : State) × (m : ℕ) × (Leads S lines T) × (reading_from T m (slice_split is_feed rest) ≡ said)

said_leads : (P : Plan) (A : List Arrival) (s : Option (List Asked)) (b : ℕ) (rest : List ℕ) → (lines : List (List ℕ)) → list_all all_clean lines ≡ true → (S : State) (n : ℕ)
    → reading_from S n (slice_split is_feed (text_of_lines lines ++ (b ∷ rest))) ≡ Said P A s → Led lines (b ∷ rest) (Said P A s) S
said_leads P A s b rest [] all S n e = (S, n, refl, e)
said_leads P A s b rest (line ∷ lines) all S n e =
    let c = and_parts (all_clean line) (list_all all_clean lines) all in
    let text : List ℕ = text_of_lines lines in elim (steps S line) [
      | inl g ↦ (let r = said_leads P A s b rest lines c.1 g.0 (n + 1) (sym (goes_on S g.0 n line text (b ∷ rest) c.0 g.1) ∙ e) in (r.0, r.1, (g.0, g.1, r.2), r.3))
      | inr w ↦ elim w [
        | inl d ↦ (let f = headed lines b rest in absurd (not_said P A s (n + 1) overlong (sym (goes_beyond S n f.0 line text (b ∷ rest) f.1 c.0 d f.2) ∙ e)))
        | inr k ↦ absurd (not_said P A s n k.0 (sym (goes_wrong S n k.0 line text (b ∷ rest) c.0 k.1) ∙ e))
      ]
    ]

last_ends : (P : Plan) (A : List Arrival) (s : Option (List Asked)) (T : State) (m : ℕ) (end : List ℕ) → all_clean end ≡ true → reading_from T m (slice_split is_feed ((end ++ codes "\n") ++ [])) ≡ Said P A s → line_step T end ≡ Ended
last_ends P A s T m end h e = elim (steps T end) [
  | inl g ↦ absurd (not_said P A s (m + 1) unended (sym (goes_on T g.0 m end [] [] h g.1) ∙ again e))
  | inr w ↦ elim w [ inl d ↦ d | inr k ↦ absurd (not_said P A s m k.0 (sym (goes_wrong T m k.0 end [] [] h k.1) ∙ again e)) ]
]
  where
    again : reading_from T m (slice_split is_feed ((end ++ codes "\n") ++ [])) ≡ Said P A s → after_line T m end [] [] ≡ Said P A s
    again e = ap (λ t. reading_from T m (slice_split is_feed (t ++ []))) (append_nil (end ++ codes "\n")) ∙ e

-- where lines and an `end` line are read as a record, this line has the number of the entries
pub end_is : (P : Plan) (A : List Arrival) (s : Option (List Asked)) (lines : List (List ℕ)) → list_all all_clean lines ≡ true → (n : ℕ) → n < 2 ^ 64 → reading (text_of_lines lines ++ end_line n) ≡ Said P A s
    → end_line n ≡ end_line (length (filter is_entry lines))
end_is P A s lines all n low e =
    let end : List ℕ = codes "end " ++ decimal n in
    let r = said_leads P A s 101 (110 ∷ 100 ∷ 32 ∷ (decimal n ++ codes "\n")) lines all before_lines 1 e in
    let T : State = r.0 in
    let here = last_ends P A s T r.1 end (clean-append (codes "end ") (decimal n) refl (clean-decimal n low)) (ap (λ t. reading_from T r.1 (slice_split is_feed t)) (append_nil (end ++ codes "\n")) ∙ r.3) in
    let all_counted = leads_count lines before_lines T fresh_before r.2 in
    ap (λ d. codes "end " ++ d ++ codes "\n") (end_counts T (decimal n) here ∙ ap decimal (omega (arith, all_counted)))
