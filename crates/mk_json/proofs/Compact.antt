-- The compact text of a tree is what a writer prints of its tokens.
use Rattle.std.proofs.Common.{◌≡◌, ℕ, Bool, true, false, cond, ◌&&◌, List, [], ◌∷◌, ◌++◌, length, take, map, flat_map, codes, inl, inr, refl, sym, ap, ap₂, ◌∙◌, append_assoc, append-nil, true≢false}
use Rattle.std.proofs.lemmas.Bool.{cases_eq, ne_eqb}
use Rattle.std.proofs.Math.Seq.{take-append_seam}
use Rattle.std.specs.List.{join_with_byte}
use Rattle.std.specs.Fmt.{signed_decimal}
use Rattle.json.specs.Token.{Token}
use Rattle.json.specs.Print as print
use Rattle.json.specs.Print.{escape_byte, print_from, separator, token_text, ends}
use Rattle.json.specs.Tree.{json_tokens, items_tokens, members_tokens}
use Rattle.serde_json.proofs.OnLiterals.{serde_json_on_literals}
use Rattle.mk_base.specs.declared.json.Json as tree
use Rattle.mk_base.specs.declared.json.Json.{Json}
use Rattle.mk_base.specs.Texts.{quoted, text_of, escaped}
use Rattle.mk_json.specs.inner.Outline.{outline, items_in, members_in}
use Rattle.mk_json.proofs.OfOutlines.{outlined, outline-Null, outline-Bool, outline-Whole, outline-Odd, outline-Text, outline-List, outline-Object}
use Rattle.mk_json.proofs.Layers.{Held, trees, members, Steps, by_layers, folded-Null, folded-Bool, folded-Whole, folded-Odd, folded-Text, folded-List, folded-Object}

-- ---- a text in quotes

escape_byte-is : (b : ℕ) → escape_byte b ≡ escaped b
unfolding serde_json_on_literals escape_byte
escape_byte-is b = elim (cases_eq b 34) [
  | inl e ↦ rw e refl
  | inr n34 ↦ elim (cases_eq b 92) [
    | inl e ↦ rw e refl
    | inr n92 ↦ elim (cases_eq b 8) [
      | inl e ↦ rw e refl
      | inr n8 ↦ elim (cases_eq b 9) [
        | inl e ↦ rw e refl
        | inr n9 ↦ elim (cases_eq b 10) [
          | inl e ↦ rw e refl
          | inr n10 ↦ elim (cases_eq b 12) [
            | inl e ↦ rw e refl
            | inr n12 ↦ elim (cases_eq b 13) [
              | inl e ↦ rw e refl
              | inr n13 ↦ rw (ne_eqb b 34 n34, ne_eqb b 92 n92, ne_eqb b 8 n8, ne_eqb b 9 n9, ne_eqb b 10 n10, ne_eqb b 12 n12, ne_eqb b 13 n13) refl
            ]
          ]
        ]
      ]
    ]
  ]
]

escape-is : (s : List ℕ) → print.escape s ≡ flat_map escaped s
escape-is [] = refl
escape-is (b ∷ s) = ap₂ (λ (x y : List ℕ). x ++ y) (escape_byte-is b) (escape-is s)

pub quoted-is : (s : List ℕ) → print.quoted s ≡ quoted s
quoted-is s = ap (λ l. 34 ∷ (l ++ 34 ∷ [])) (escape-is s)

-- ---- texts with commas between them, behind a comma or not

abbrev comma : Bool → List ℕ
comma c = cond c (44 ∷ []) []

abbrev led : Bool → List (List ℕ) → List ℕ
led c [] = []
led c (x ∷ xs) = comma c ++ (x ++ led true xs)

join_led : (x : List ℕ) (xs : List (List ℕ)) → join_with_byte 44 (x ∷ xs) ≡ x ++ led true xs
join_led x [] = sym (append-nil x)
join_led x (y ∷ ys) = ap (λ l. x ++ (44 ∷ l)) (join_led y ys)

led-false : (xs : List (List ℕ)) → led false xs ≡ join_with_byte 44 xs
led-false [] = refl
led-false (x ∷ xs) = sym (join_led x xs)

begun : (c b : Bool) → b ≡ true → cond (c && b) (44 ∷ []) [] ≡ comma c
begun true true e = refl
begun true false e = absurd (true≢false (sym e))
begun false b e = refl

-- ---- each kind of tree, behind a value or not, with more behind it

abbrev Prints : Json → Type 0
Prints t = (c : Bool) (us : List Token) → print_from c (json_tokens (outline t) ++ us) ≡ comma c ++ (text_of t ++ print_from true us)

prints_token : (t : Json) (token : Token) → json_tokens (outline t) ≡ token ∷ [] → print.begins token ≡ true → ends token ≡ true → token_text token ≡ text_of t → Prints t
unfolding print_from
prints_token t token is begins ended text c us =
    ap (λ ts. print_from c (ts ++ us)) is ∙ ap (λ l. l ++ (token_text token ++ print_from (ends token) us)) (begun c (print.begins token) begins)
    ∙ ap₂ (λ l e. comma c ++ (l ++ print_from e us)) text ended

prints_bool : (b : Bool) → token_text (Token.boolean b) ≡ text_of (tree.Bool b)
prints_bool true = sym (folded-Bool _ _ true)
prints_bool false = sym (folded-Bool _ _ false)

prints_end : (c : Bool) (t : Token) (us : List Token) → print.begins t ≡ false → ends t ≡ true → print_from c (t ∷ us) ≡ token_text t ++ print_from true us
unfolding print_from
prints_end true t us begins ended = rw (begins, ended) refl
prints_end false t us begins ended = rw ended refl

prints_items : (hs : List (Held Prints)) (c : Bool) (us : List Token) → print_from c (items_tokens (items_in (map outline (trees hs))) ++ us) ≡ led c (map text_of (trees hs)) ++ (93 ∷ print_from true us)
prints_items [] c us = prints_end c Token.end_array us refl refl
prints_items (h ∷ hs) c us =
    let rest = items_tokens (items_in (map outline (trees hs))) in
    let after = 93 ∷ print_from true us in
    ap (print_from c) (append_assoc (json_tokens (outline h.0)) rest us) ∙ h.1 c (rest ++ us) ∙ ap (λ l. comma c ++ (text_of h.0 ++ l)) (prints_items hs true us)
    ∙ ap (λ l. comma c ++ l) (sym (append_assoc (text_of h.0) (led true (map text_of (trees hs))) after)) ∙ sym (append_assoc (comma c) (text_of h.0 ++ led true (map text_of (trees hs))) after)

prints_list : (hs : List (Held Prints)) → Prints (tree.List (trees hs))
unfolding print_from
prints_list hs c us =
    let texts = map text_of (trees hs) in
    let after = print_from true us in
    ap (λ j. print_from c (json_tokens j ++ us)) (outline-List (trees hs))
    ∙ ap₂ (λ l m. l ++ (91 ∷ m)) (begun c true refl) (prints_items hs false us ∙ ap (λ l. l ++ (93 ∷ after)) (led-false texts) ∙ sym (append_assoc (join_with_byte 44 texts) (93 ∷ []) after))
    ∙ ap (λ l. comma c ++ (l ++ after)) (sym (folded-List _ _ (trees hs)))

abbrev pub texted : List (List ℕ × Json) → List (List ℕ × List ℕ)
texted ms = map (λ (m : List ℕ × Json). (m.0, text_of m.1)) ms

abbrev pub member_texts : List (List ℕ × Json) → List (List ℕ)
member_texts ms = map (λ (m : List ℕ × List ℕ). quoted m.0 ++ codes ":" ++ m.1) (texted ms)

prints_key : (c : Bool) (k : List ℕ) (us : List Token) → print_from c (Token.key k ∷ us) ≡ comma c ++ ((quoted k ++ codes ":") ++ print_from false us)
unfolding print_from
prints_key c k us = ap₂ (λ l q. l ++ ((q ++ 58 ∷ []) ++ print_from false us)) (begun c true refl) (quoted-is k)

prints_members : (hs : List (List ℕ × Held Prints)) (c : Bool) (us : List Token) → print_from c (members_tokens (members_in (outlined (members hs))) ++ us) ≡ led c (member_texts (members hs)) ++ (125 ∷ print_from true us)
prints_members [] c us = prints_end c Token.end_object us refl refl
prints_members (h ∷ hs) c us =
    let t = h.1.0 in
    let rest = members_tokens (members_in (outlined (members hs))) in
    let more = led true (member_texts (members hs)) in
    let after = 125 ∷ print_from true us in
    let key = quoted h.0 ++ codes ":" in
    ap (λ l. print_from c (Token.key h.0 ∷ l)) (append_assoc (json_tokens (outline t)) rest us) ∙ prints_key c h.0 (json_tokens (outline t) ++ (rest ++ us))
    ∙ ap (λ l. comma c ++ (key ++ l)) (h.1.1 false (rest ++ us) ∙ ap (λ l. text_of t ++ l) (prints_members hs true us))
    ∙ ap (λ l. comma c ++ l) (sym (append_assoc key (text_of t) (more ++ after)) ∙ sym (append_assoc (key ++ text_of t) more after)) ∙ sym (append_assoc (comma c) ((key ++ text_of t) ++ more) after)

prints_object : (hs : List (List ℕ × Held Prints)) → Prints (tree.Object (members hs))
unfolding print_from
prints_object hs c us =
    let texts = member_texts (members hs) in
    let after = print_from true us in
    ap (λ j. print_from c (json_tokens j ++ us)) (outline-Object (members hs))
    ∙ ap₂ (λ l m. l ++ (123 ∷ m)) (begun c true refl) (prints_members hs false us ∙ ap (λ l. l ++ (125 ∷ after)) (led-false texts) ∙ sym (append_assoc (join_with_byte 44 texts) (125 ∷ []) after))
    ∙ ap (λ l. comma c ++ (l ++ after)) (sym (folded-Object _ _ (members hs)))

prints_each : Steps Prints
prints_each = record {
  null = prints_token tree.Null Token.null (ap json_tokens outline-Null) refl refl (sym (folded-Null _ _));
  bool = λ b. prints_token (tree.Bool b) (Token.boolean b) (ap json_tokens (outline-Bool b)) refl refl (prints_bool b);
  whole = λ n. prints_token (tree.Whole n) (Token.number (signed_decimal n)) (ap json_tokens (outline-Whole n)) refl refl (sym (folded-Whole _ _ n));
  odd = prints_token tree.Odd (Token.number (codes "0.5")) (ap json_tokens outline-Odd) refl refl (sym (folded-Odd _ _));
  text = λ s. prints_token (tree.Text s) (Token.string s) (ap json_tokens (outline-Text s)) refl refl (quoted-is s ∙ sym (folded-Text _ _ s));
  list = prints_list;
  object = prints_object;
}

pub text_of-is : (t : Json) → print.print (json_tokens (outline t)) ≡ text_of t
unfolding print_from
text_of-is t = ap (print_from false) (sym (append-nil (json_tokens (outline t)))) ∙ by_layers Prints prints_each t false [] ∙ append-nil (text_of t)

-- ---- what a writer leaves that began behind what was there

-- the text of a tree, appended
pub appended : (old new before : List ℕ) (first all : List Token) (t : Json) → first ≡ [] → before ≡ old → all ≡ first ++ json_tokens (outline t) → new ≡ before ++ print.print all → new ≡ old ++ text_of t
appended old new before first all t none same tokens grown =
    grown ∙ ap₂ (λ l ts. l ++ print.print ts) same (tokens ∙ ap (λ ts. ts ++ json_tokens (outline t)) none) ∙ ap (λ l. old ++ l) (text_of-is t)

print-text : (s : List ℕ) → print.print (Token.string s ∷ []) ≡ quoted s
print-text s = ap (λ j. print.print (json_tokens j)) (sym (outline-Text s)) ∙ text_of-is (tree.Text s) ∙ folded-Text _ _ s

-- a text in quotes, appended
pub appended_text : (old new before : List ℕ) (first all : List Token) (s : List ℕ) → first ≡ [] → before ≡ old → all ≡ first ++ Token.string s ∷ [] → new ≡ before ++ print.print all → new ≡ old ++ quoted s
appended_text old new before first all s none same tokens grown =
    grown ∙ ap₂ (λ l ts. l ++ print.print ts) same (tokens ∙ ap (λ ts. ts ++ Token.string s ∷ []) none) ∙ ap (λ l. old ++ l) (print-text s)

-- what was there, when the rest is taken off
pub taken_back : (old new before whole : List ℕ) (all : List Token) (kept : ℕ) → kept ≡ length old → before ≡ old → whole ≡ before ++ print.print all → new ≡ take kept whole → new ≡ old
taken_back old new before whole all kept count same grown cut =
    cut ∙ ap₂ take count (grown ∙ ap (λ l. l ++ print.print all) same) ∙ take-append_seam old (print.print all)
