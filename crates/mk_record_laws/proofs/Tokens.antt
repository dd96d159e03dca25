-- For proofs alone. The tokens of a text in UTF-8, and the values of its grammar, have their texts
-- in UTF-8.
use Rattle.std.proofs.Common.{◌≡◌, ℕ, zero, suc, ◌==◌, ◌&&◌, Bool, true, false, cond, List, [], ◌∷◌, length, Option, Some, None, option_and_then, refl, arith}
use Rattle.std.specs.Prelude.{⊤, IsUtf8}
use Rattle.std.proofs.lemmas.Bool.{eqb-true}
use Rattle.std.specs.Prelude.{nat_eq, drop}
use Rattle.std.specs.List.{starts_with}
use Rattle.json.specs.Ascii as ascii
use Rattle.json.specs.Token as tok
use Rattle.json.specs.Token.{Token}
use Rattle.json.specs.Text.{plain, content}
use Rattle.json.specs.Word.{is_operator, is_space, word, literal, number_before, after_number, ends_word, head}
use Rattle.json.specs.Lex.{Lexeme, token, comma, colon, Class, quote, backslash, operator, space, other, class, operator_lexeme, string_token, Mode, between, in_word, in_string, in_escape, lex_byte, lex, Place, fresh, after_value, after_comma, after_key, begins_colon, may_begin, may_close, if_allowed, place_token, punctuate, tokens}
use Rattle.json.specs.Json as json
use Rattle.json.specs.Json.{Json, Items, Members, Parse, parse_map, after_end_array, read_key, items_step, members_step, items, members, value_with, value}
use Rattle.mk_base.specs.Lists.{Each}
use Rattle.mk_record_laws.proofs.Characters.{IsText, content_text, IsCut, text_cut}

-- ---- tokens

abbrev pub IsTextToken : Token → Type 0
IsTextToken tok.begin_object = ⊤
IsTextToken tok.end_object = ⊤
IsTextToken tok.begin_array = ⊤
IsTextToken tok.end_array = ⊤
IsTextToken (tok.key s) = IsUtf8 s
IsTextToken (tok.string s) = IsUtf8 s
IsTextToken (tok.number s) = ⊤
IsTextToken (tok.boolean b) = ⊤
IsTextToken tok.null = ⊤
IsTextToken tok.bad = ⊤

abbrev IsTextLexeme : Lexeme → Type 0
IsTextLexeme (token t) = IsTextToken t
IsTextLexeme comma = ⊤
IsTextLexeme colon = ⊤

either : {A : Type 0} (Q : A → Type 0) (b : Bool) (x y : A) → Q x → Q y → Q (cond b x y)
either Q true x y h k = h
either Q false x y h k = k

operator_text : (x : ℕ) → IsTextLexeme (operator_lexeme x)
operator_text x =
    either IsTextLexeme (x == ascii.open_brace) (token tok.begin_object) _ tt (either IsTextLexeme (x == ascii.close_brace) (token tok.end_object) _ tt (either IsTextLexeme (x == ascii.open_bracket) (token tok.begin_array) _ tt
    (either IsTextLexeme (x == ascii.close_bracket) (token tok.end_array) _ tt (either IsTextLexeme (x == ascii.comma) comma colon tt tt))))

string_text : (o : Option (List ℕ)) → IsText o → IsTextToken (string_token o)
string_text None h = tt
string_text (Some s) h = h

literal_text : (name : List ℕ) (t : Token) (xs : List ℕ) → IsTextToken t → IsTextToken (literal name t xs)
literal_text name t xs h = either IsTextToken (starts_with nat_eq xs name && ends_word (drop (length name) xs)) t tok.bad h tt

number_text : (xs : List ℕ) (o : Option (List ℕ)) → IsTextToken (number_before xs o)
number_text xs None = tt
number_text xs (Some rest) = either IsTextToken (ends_word rest) (tok.number _) tok.bad tt tt

word_text : (xs : List ℕ) → IsTextToken (word xs)
unfolding word
word_text xs =
    either IsTextToken (head xs == ascii.lower_t) (literal ascii.true_text (tok.boolean true) xs) _ (literal_text ascii.true_text (tok.boolean true) xs tt)
    (either IsTextToken (head xs == ascii.lower_f) (literal ascii.false_text (tok.boolean false) xs) _ (literal_text ascii.false_text (tok.boolean false) xs tt)
    (either IsTextToken (head xs == ascii.lower_n) (literal ascii.null_text tok.null xs) _ (literal_text ascii.null_text tok.null xs tt) (number_text xs (after_number xs))))

byte_text : (m : Mode) (c : Class) (x : ℕ) (xs : List ℕ) (k : Mode → List Lexeme) → (c ≡ quote → IsUtf8 xs) → ((next : Mode) → Each IsTextLexeme (k next)) → Each IsTextLexeme (lex_byte m c x xs k)
byte_text between quote x xs k u h = (string_text (content plain xs) (content_text (length xs) plain xs (omega arith) tt (u refl)), h in_string)
byte_text between backslash x xs k u h = (tt, h in_word)
byte_text between operator x xs k u h = (operator_text x, h between)
byte_text between space x xs k u h = h between
byte_text between other x xs k u h = (word_text (x ∷ xs), h in_word)
byte_text in_word quote x xs k u h = h in_word
byte_text in_word backslash x xs k u h = h in_word
byte_text in_word operator x xs k u h = (operator_text x, h between)
byte_text in_word space x xs k u h = h between
byte_text in_word other x xs k u h = h in_word
byte_text in_string quote x xs k u h = h between
byte_text in_string backslash x xs k u h = h in_escape
byte_text in_string operator x xs k u h = h in_string
byte_text in_string space x xs k u h = h in_string
byte_text in_string other x xs k u h = h in_string
byte_text in_escape c x xs k u h = h in_string

no_quote : (a b c : Bool) → cond a backslash (cond b operator (cond c space other)) ≡ quote → ⊥
no_quote true b c e = cc
no_quote false true c e = cc
no_quote false false true e = cc
no_quote false false false e = cc

is_quote : (x : ℕ) → class x ≡ quote → x ≡ 34
is_quote x e = by (x == ascii.quote) refl e
  where
    by : (b : Bool) → (x == ascii.quote) ≡ b → cond b quote (cond (x == ascii.backslash) backslash (cond (is_operator x) operator (cond (is_space x) space other))) ≡ quote → x ≡ 34
    by true q e = eqb-true x 34 q
    by false q e = absurd (no_quote (x == ascii.backslash) (is_operator x) (is_space x) e)

lexed : (m : Mode) (xs : List ℕ) → IsCut xs → Each IsTextLexeme (lex m xs)
unfolding lex
lexed m [] h = tt
lexed m (x ∷ xs) h = byte_text m (class x) x xs (λ next. lex next xs) (λ q. h.0 (let here = is_quote x q in omega (arith, here))) (λ next. lexed next xs h.1)

allowed_text : (b : Bool) (t : Token) (k : Place → List Token) (next : Place) → IsTextToken t → ((p : Place) → Each IsTextToken (k p)) → Each IsTextToken (if_allowed b t k next)
allowed_text true t k next h r = (h, r next)
allowed_text false t k next h r = (tt, tt)

token_text : (p : Place) (t : Token) (b : Bool) (k : Place → List Token) → IsTextToken t → ((p : Place) → Each IsTextToken (k p)) → Each IsTextToken (place_token p t b k)
token_text p tok.begin_object b k h r = allowed_text (may_begin p) tok.begin_object k fresh h r
token_text p tok.end_object b k h r = allowed_text (may_close p) tok.end_object k after_value h r
token_text p tok.begin_array b k h r = allowed_text (may_begin p) tok.begin_array k fresh h r
token_text p tok.end_array b k h r = allowed_text (may_close p) tok.end_array k after_value h r
token_text p (tok.key s) b k h r = (tt, tt)
token_text p (tok.string s) true k h r = allowed_text (may_begin p) (tok.key s) k after_key h r
token_text p (tok.string s) false k h r = allowed_text (may_begin p) (tok.string s) k after_value h r
token_text p (tok.number s) b k h r = allowed_text (may_begin p) (tok.number s) k after_value h r
token_text p (tok.boolean c) b k h r = allowed_text (may_begin p) (tok.boolean c) k after_value h r
token_text p tok.null b k h r = allowed_text (may_begin p) tok.null k after_value h r
token_text p tok.bad b k h r = (tt, tt)

placed : (p : Place) (ls : List Lexeme) → Each IsTextLexeme ls → Each IsTextToken (punctuate p ls)
unfolding punctuate
placed fresh [] h = tt
placed after_value [] h = tt
placed after_comma [] h = (tt, tt)
placed after_key [] h = (tt, tt)
placed fresh (token t ∷ ls) h = token_text fresh t (begins_colon ls) (λ next. punctuate next ls) h.0 (λ next. placed next ls h.1)
placed after_value (token t ∷ ls) h = token_text after_value t (begins_colon ls) (λ next. punctuate next ls) h.0 (λ next. placed next ls h.1)
placed after_comma (token t ∷ ls) h = token_text after_comma t (begins_colon ls) (λ next. punctuate next ls) h.0 (λ next. placed next ls h.1)
placed after_key (token t ∷ ls) h = token_text after_key t (begins_colon ls) (λ next. punctuate next ls) h.0 (λ next. placed next ls h.1)
placed fresh (comma ∷ ls) h = (tt, tt)
placed after_value (comma ∷ ls) h = placed after_comma ls h.1
placed after_comma (comma ∷ ls) h = (tt, tt)
placed after_key (comma ∷ ls) h = (tt, tt)
placed fresh (colon ∷ ls) h = (tt, tt)
placed after_value (colon ∷ ls) h = (tt, tt)
placed after_comma (colon ∷ ls) h = (tt, tt)
placed after_key (colon ∷ ls) h = placed fresh ls h.1

-- the tokens of a text in UTF-8
tokens_text : (xs : List ℕ) → IsUtf8 xs → Each IsTextToken (tokens xs)
tokens_text xs u = placed fresh (lex between xs) (lexed between xs (text_cut xs u))

-- ---- values

-- the texts and names of a value are UTF-8
abbrev mutual
  pub ValueHasTexts : Json → Type 0
  ValueHasTexts json.null = ⊤
  ValueHasTexts (json.boolean b) = ⊤
  ValueHasTexts (json.number s) = ⊤
  ValueHasTexts (json.string s) = IsUtf8 s
  ValueHasTexts (json.array js) = ItemsHaveTexts js
  ValueHasTexts (json.object ms) = MembersHaveTexts ms

  pub ItemsHaveTexts : Items → Type 0
  ItemsHaveTexts json.no_items = ⊤
  ItemsHaveTexts (json.item j js) = ValueHasTexts j × ItemsHaveTexts js

  pub MembersHaveTexts : Members → Type 0
  MembersHaveTexts json.no_members = ⊤
  MembersHaveTexts (json.member k j ms) = IsUtf8 k × ValueHasTexts j × MembersHaveTexts ms

-- what was read holds, and the tokens that are left have their texts in UTF-8
abbrev Found : {A : Type 0} → (A → Type 0) → Option (A × List Token) → Type 0
Found Q None = ⊤
Found Q (Some p) = Q p.0 × Each IsTextToken p.1

abbrev Reads : {A : Type 0} → (A → Type 0) → Parse A → Type 0
Reads Q p = (ts : List Token) → Each IsTextToken ts → Found Q (p ts)

mapped : {A B : Type 0} (Q : A → Type 0) (R : B → Type 0) (h : A → B) → ((a : A) → Q a → R (h a)) → (o : Option (A × List Token)) → Found Q o → Found R (parse_map h o)
mapped Q R h k None x = tt
mapped Q R h k (Some p) x = (k p.0 x.0, x.1)

then_more : {B : Type 0} (R : B → Type 0) (h : Json → B → B) → ((j : Json) (b : B) → ValueHasTexts j → R b → R (h j b)) → (more : Parse B) → Reads R more
    → (o : Option (Json × List Token)) → Found ValueHasTexts o → Found R (option_and_then (λ q. parse_map (h q.0) (more q.1)) o)
then_more R h is more reads None x = tt
then_more R h is more reads (Some q) x = mapped R R (h q.0) (λ b y. is q.0 b x.0 y) (more q.1) (reads q.1 x.1)

-- what follows a bracket
abbrev Left : Option (List Token) → Type 0
Left None = ⊤
Left (Some ts) = Each IsTextToken ts

after_end : (ts : List Token) → Each IsTextToken ts → Left (after_end_array ts)
after_end [] h = tt
after_end (tok.begin_object ∷ ts) h = tt
after_end (tok.end_object ∷ ts) h = tt
after_end (tok.begin_array ∷ ts) h = tt
after_end (tok.end_array ∷ ts) h = h.1
after_end (tok.key s ∷ ts) h = tt
after_end (tok.string s ∷ ts) h = tt
after_end (tok.number s ∷ ts) h = tt
after_end (tok.boolean b ∷ ts) h = tt
after_end (tok.null ∷ ts) h = tt
after_end (tok.bad ∷ ts) h = tt

key_read : Reads IsText read_key
key_read [] h = tt
key_read (tok.begin_object ∷ ts) h = tt
key_read (tok.end_object ∷ ts) h = (tt, h.1)
key_read (tok.begin_array ∷ ts) h = tt
key_read (tok.end_array ∷ ts) h = tt
key_read (tok.key s ∷ ts) h = (h.0, h.1)
key_read (tok.string s ∷ ts) h = tt
key_read (tok.number s ∷ ts) h = tt
key_read (tok.boolean b ∷ ts) h = tt
key_read (tok.null ∷ ts) h = tt
key_read (tok.bad ∷ ts) h = tt

module _ (p : Parse Json) (reads : Reads ValueHasTexts p) where
  item_turn : (more : Parse Items) → Reads ItemsHaveTexts more → (ts : List Token) → Each IsTextToken ts → (o : Option (List Token)) → Left o → Found ItemsHaveTexts (items_step p more ts o)
  item_turn more again ts h (Some r) k = (tt, k)
  item_turn more again ts h None k = then_more ItemsHaveTexts json.item (λ j b x y. (x, y)) more again (p ts) (reads ts h)

  items_read : (n : ℕ) → Reads ItemsHaveTexts (items p n)
  unfolding items
  items_read zero ts h = tt
  items_read (suc n) ts h = item_turn (items p n) (items_read n) ts h (after_end_array ts) (after_end ts h)

  member_turn : (more : Parse Members) → Reads MembersHaveTexts more → (o : Option (Option (List ℕ) × List Token)) → Found IsText o → Found MembersHaveTexts (option_and_then (λ q. members_step p more q.0 q.1) o)
  member_turn more again None k = tt
  member_turn more again (Some (None, s)) k = (tt, k.1)
  member_turn more again (Some (Some name, s)) k = then_more MembersHaveTexts (json.member name) (λ j b x y. (k.0, x, y)) more again (p s) (reads s k.1)

  members_read : (n : ℕ) → Reads MembersHaveTexts (members p n)
  unfolding members
  members_read zero ts h = tt
  members_read (suc n) ts h = member_turn (members p n) (members_read n) (read_key ts) (key_read ts h)

one_level : (a : Parse Items) (o : Parse Members) → ((ts : List Token) → Each IsTextToken ts → Found ValueHasTexts (parse_map json.array (a ts))) → ((ts : List Token) → Each IsTextToken ts → Found ValueHasTexts (parse_map json.object (o ts))) → Reads ValueHasTexts (value_with a o)
one_level a o p q [] h = tt
one_level a o p q (tok.begin_object ∷ ts) h = q ts h.1
one_level a o p q (tok.end_object ∷ ts) h = tt
one_level a o p q (tok.begin_array ∷ ts) h = p ts h.1
one_level a o p q (tok.end_array ∷ ts) h = tt
one_level a o p q (tok.key s ∷ ts) h = tt
one_level a o p q (tok.string s ∷ ts) h = (h.0, h.1)
one_level a o p q (tok.number s ∷ ts) h = (tt, h.1)
one_level a o p q (tok.boolean b ∷ ts) h = (tt, h.1)
one_level a o p q (tok.null ∷ ts) h = (tt, h.1)
one_level a o p q (tok.bad ∷ ts) h = tt

value_read : (depth : ℕ) → Reads ValueHasTexts (value depth)
unfolding value
value_read zero = one_level (λ ts. None) (λ ts. None) (λ ts h. tt) (λ ts h. tt)
value_read (suc depth) =
    one_level (λ ts. items (value depth) (length ts) ts) (λ ts. members (value depth) (length ts) ts)
    (λ ts h. mapped ItemsHaveTexts ValueHasTexts json.array (λ js x. x) (items (value depth) (length ts) ts) (items_read (value depth) (value_read depth) (length ts) ts h))
    (λ ts h. mapped MembersHaveTexts ValueHasTexts json.object (λ ms x. x) (members (value depth) (length ts) ts) (members_read (value depth) (value_read depth) (length ts) ts h))

-- the value of a text in UTF-8
abbrev pub Held : Option Json → Type 0
Held None = ⊤
Held (Some j) = ValueHasTexts j

last_text : (o : Option (Json × List Token)) → Found ValueHasTexts o → Held (option_and_then (λ p. json.if_last p.0 p.1) o)
last_text None h = tt
last_text (Some (j, [])) h = h.0
last_text (Some (j, t ∷ ts)) h = tt

pub value_text : (depth : ℕ) (xs : List ℕ) → IsUtf8 xs → Held (option_and_then (λ p. json.if_last p.0 p.1) (value depth (tokens xs)))
value_text depth xs u = last_text (value depth (tokens xs)) (value_read depth (tokens xs) (tokens_text xs u))
