-- The lines of entries, one by one, are those of the record's entries among them.
use Rattle.std.proofs.Common.{◌≡◌, ℕ, ◌+◌, ◌<◌, List, [], ◌∷◌, ◌++◌, ◌≤◌, true, false, length, flat_map, take, get_or, if◌then◌else◌, refl, sym, ap, ◌∙◌, subst, append_assoc, length-append, arith}
use Rattle.std.proofs.lemmas.List.{take_more}
use Rattle.mk_base.proofs.Lists.{append_nil, flat_map_append, filter_map_append}
use Rattle.mk_plan.specs.declared.Item.TheVariants.{Step, GetData, Answer, Refuse}
use Rattle.mk_plan.specs.declared.Entry.{Entry}
use Rattle.mk_plan.specs.declared.Entry.TheVariants.{Sent, Got}
use Rattle.mk_record_read.specs.Entries.{entry_of, entries_of}
use Rattle.mk_record_read.specs.Texts.{ask_line, got_line, entry_line}
use Rattle.mk_record_write.specs.inner.Writable.{is_line, line_in}

pub lines_are : (J : List Entry) → flat_map line_in J ≡ flat_map entry_line (entries_of J)
lines_are [] = refl
lines_are (Sent s (Step at ins advance) ∷ J) = ap (λ l. ask_line s.0 at advance ++ l) (lines_are J)
lines_are (Sent s (GetData wanted) ∷ J) = lines_are J
lines_are (Sent s (Answer id content) ∷ J) = lines_are J
lines_are (Sent s (Refuse id reason) ∷ J) = lines_are J
lines_are (Got s m ∷ J) = ap (λ l. got_line (record { sim = s.0; message = m }) ++ l) (lines_are J)

-- an entry has a line where it is one of the record's
line_one : (e : Entry) → length (entries_of (e ∷ [])) ≡ (if is_line e then 1 else 0)
line_one (Sent s (Step at ins advance)) = refl
line_one (Sent s (GetData wanted)) = refl
line_one (Sent s (Answer id content)) = refl
line_one (Sent s (Refuse id reason)) = refl
line_one (Got s m) = refl

pub one_at_most : (e : Entry) (n : ℕ) → n ≡ (if is_line e then 1 else 0) → n ≤ 1
one_at_most e n is = subst (λ k. k ≤ 1) (sym is) (elim (is_line e) as (λ b. (if b then 1 else 0) ≤ 1) [ true ↦ omega arith | false ↦ omega arith ])

-- one entry more
pub line_push : (J : List Entry) (k : ℕ) (e : Entry) (first out new : List ℕ) → k < length J → e ≡ get_or J k e → out ≡ first ++ flat_map line_in (take k J) → new ≡ out ++ line_in e → new ≡ first ++ flat_map line_in (take (k + 1) J)
line_push J k e first out new low is before after =
    let longer : take (k + 1) J ≡ take k J ++ e ∷ [] = take_more J k e low ∙ ap (λ (d : Entry). take k J ++ d ∷ []) (sym is) in
    let texts : flat_map line_in (take (k + 1) J) ≡ flat_map line_in (take k J) ++ line_in e =
    ap (flat_map line_in) longer ∙ flat_map_append line_in (take k J) (e ∷ []) ∙ ap (λ l. flat_map line_in (take k J) ++ l) (append_nil (line_in e)) in
    after ∙ ap (λ l. l ++ line_in e) before ∙ append_assoc first (flat_map line_in (take k J)) (line_in e) ∙ ap (λ l. first ++ l) (sym texts)

pub count_push : (J : List Entry) (k : ℕ) (e : Entry) (count n : ℕ) → k < length J → e ≡ get_or J k e → count ≡ length (entries_of (take k J)) → n ≡ (if is_line e then 1 else 0) → count + n ≡ length (entries_of (take (k + 1) J))
count_push J k e count n low is before one =
    let longer : take (k + 1) J ≡ take k J ++ e ∷ [] = take_more J k e low ∙ ap (λ (d : Entry). take k J ++ d ∷ []) (sym is) in
    ap (λ m. m + n) before ∙ ap (λ m. length (entries_of (take k J)) + m) (one ∙ sym (line_one e))
    ∙ sym (ap (λ (l : List Entry). length (entries_of l)) longer ∙ ap length (filter_map_append entry_of (take k J) (e ∷ [])) ∙ length-append (entries_of (take k J)) (entries_of (e ∷ [])))
