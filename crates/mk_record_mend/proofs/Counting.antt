-- Lines that lead from one state to another: how many of them are entries, and how they are read.
use Rattle.std.proofs.Common.{◌≡◌, ℕ, ◌+◌, ◌≤◌, Bool, true, false, cond, List, [], ◌∷◌, length, refl, sym, ap, ◌∙◌, arith}
use Rattle.std.specs.List.{filter}
use Rattle.mk_record_read.specs.Reading.{State, before_lines}
use Rattle.mk_record_mend.specs.Mended.{ends_in_entry, is_entry}
use Rattle.mk_record_mend.specs.Whole.{Leads}
use Rattle.mk_record_mend.proofs.EntryKinds.{IsFresh, line_moves, lines_in}

pub first_counts : (b : Bool) (line : List ℕ) (lines : List (List ℕ)) → length (cond b (line ∷ lines) lines) ≡ cond b 1 0 + length lines
first_counts true line lines = omega arith
first_counts false line lines = omega arith

later_fresh : (S : State) → 1 ≤ S.last → IsFresh S
later_fresh S later e = absurd (omega (arith, later, e))

-- each entry among the lines is counted
pub leads_count : (lines : List (List ℕ)) (S T : State) → IsFresh S → Leads S lines T → lines_in T ≡ lines_in S + length (filter is_entry lines)
leads_count [] S T fresh same = ap lines_in (sym same) ∙ omega arith
leads_count (line ∷ lines) S T fresh led =
    let U : State = led.0 in
    let m = line_moves S U line fresh led.1 in
    let rest = leads_count lines U T (later_fresh U m.later) led.2 in
    let one = first_counts (is_entry line) line (filter is_entry lines) in
    let here = m.count in
    omega (arith, rest, one, here)

-- the last of them is an entry
pub leads_last : (lines : List (List ℕ)) (S T : State) → IsFresh S → Leads S lines T → ends_in_entry lines ≡ true → T.last ≡ 8
leads_last [] S T fresh same e = absurd (grind (arith, e))
leads_last (line ∷ []) S T fresh led e = sym (ap (λ (U : State). U.last) led.2) ∙ (line_moves S led.0 line fresh led.1).last e
leads_last (line ∷ next ∷ lines) S T fresh led e = leads_last (next ∷ lines) led.0 T (later_fresh led.0 (line_moves S led.0 line fresh led.1).later) led.2 e

pub fresh_before : IsFresh before_lines
fresh_before e = refl
