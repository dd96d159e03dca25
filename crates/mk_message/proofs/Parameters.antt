-- Where the time resolution stands among parameters.
use Rattle.std.proofs.Common.{◌≡◌, ℕ, List, [], ◌∷◌, ◌++◌, map, flat_map, codes, Ordering, Less, Equal, Greater, refl, sym, ap, ◌∙◌, subst, append_assoc, Result, OnOk}
use Rattle.std.specs.List.{join_with_byte}
use Rattle.mk_base.specs.declared.json.Json.{Json}
use Rattle.mk_base.specs.Lists.{text_order, placed}
use Rattle.mk_base.specs.Texts.{text_of}
use Rattle.mk_message.specs.Written.{texts_of, time_resolution, with_resolution}
use Rattle.mk_message.specs.inner.Written.{member_text}
use Rattle.mk_message.proofs.Gathering.{join_more}

-- the members with the time resolution, by their text
abbrev pub parameters_text : List (List ℕ × Json) → List ℕ
parameters_text ms = join_with_byte 44 (map member_text (with_resolution (texts_of ms)))

abbrev pub following : List (List ℕ × Json) → List ℕ
following ms = flat_map (λ (m : List ℕ × List ℕ). codes "," ++ member_text m) (texts_of ms)

behind-following : (ms : List (List ℕ × List ℕ)) → flat_map (λ (x : List ℕ). 44 ∷ x) (map member_text ms) ≡ flat_map (λ (m : List ℕ × List ℕ). codes "," ++ member_text m) ms
behind-following [] = refl
behind-following (m ∷ ms) = ap (λ l. (44 ∷ member_text m) ++ l) (behind-following ms)

abbrev order_of : List ℕ × List ℕ → List ℕ × List ℕ → Ordering
order_of m n = text_order m.0 n.0

-- which comes of it, by how the time resolution stands to the first name
abbrev chosen : Ordering → List ℕ × List ℕ → List (List ℕ × List ℕ) → List ℕ
chosen o y ys = join_with_byte 44 (map member_text (placed o time_resolution y ys (with_resolution ys)))

-- the same on texts
led_by : (x : List ℕ × List ℕ) (xs : List (List ℕ × List ℕ)) → join_with_byte 44 (map member_text (x ∷ xs)) ≡ member_text x ++ flat_map (λ (m : List ℕ × List ℕ). codes "," ++ member_text m) xs
led_by x xs = join_more (member_text x) (map member_text xs) ∙ ap (λ l. member_text x ++ l) (behind-following xs)

-- something stands there
record Some_first (xs : List (List ℕ × List ℕ)) : Type 0 where
  first : List ℕ × List ℕ
  rest : List (List ℕ × List ℕ)
  is : xs ≡ first ∷ rest

placed_some : (o : Ordering) (x y : List ℕ × List ℕ) (ys more : List (List ℕ × List ℕ)) → Some_first (placed o x y ys more)
placed_some Less x y ys more = record { first = x; rest = y ∷ ys; is = refl }
placed_some Equal x y ys more = record { first = x; rest = ys; is = refl }
placed_some Greater x y ys more = record { first = y; rest = more; is = refl }

resolution_some : (ys : List (List ℕ × List ℕ)) → Some_first (with_resolution ys)
resolution_some [] = record { first = time_resolution; rest = []; is = refl }
resolution_some (y ∷ ys) = placed_some (order_of time_resolution y) time_resolution y ys (with_resolution ys)

join_first : (x : List ℕ × List ℕ) (xs : List (List ℕ × List ℕ)) → Some_first xs → join_with_byte 44 (map member_text (x ∷ xs)) ≡ member_text x ++ (44 ∷ join_with_byte 44 (map member_text xs))
join_first x xs s = ap (λ ms. join_with_byte 44 (map member_text (x ∷ ms))) s.is ∙ ap (λ ms. member_text x ++ (44 ∷ join_with_byte 44 (map member_text ms))) (sym s.is)

pub before_first : (y : List ℕ × Json) (ys : List (List ℕ × Json)) → text_order (codes "time_resolution") y.0 ≡ Less → parameters_text (y ∷ ys) ≡ member_text time_resolution ++ following (y ∷ ys)
before_first y ys e = ap (λ o. chosen o (y.0, text_of y.1) (texts_of ys)) e ∙ led_by time_resolution (texts_of (y ∷ ys))

pub in_place : (y : List ℕ × Json) (ys : List (List ℕ × Json)) → text_order (codes "time_resolution") y.0 ≡ Equal → parameters_text (y ∷ ys) ≡ member_text time_resolution ++ following ys
in_place y ys e = ap (λ o. chosen o (y.0, text_of y.1) (texts_of ys)) e ∙ led_by time_resolution (texts_of ys)

pub behind_first : (y : List ℕ × Json) (ys : List (List ℕ × Json)) → text_order (codes "time_resolution") y.0 ≡ Greater → parameters_text (y ∷ ys) ≡ member_text (y.0, text_of y.1) ++ (44 ∷ parameters_text ys)
behind_first y ys e = ap (λ o. chosen o (y.0, text_of y.1) (texts_of ys)) e ∙ join_first (y.0, text_of y.1) (with_resolution (texts_of ys)) (resolution_some (texts_of ys))

-- ---- what is appended, from what is known of the calls

pub on_ok_appended : {A E : Type 0} (r : Result A E) (old one out whole first rest : List ℕ) → one ≡ old ++ first → whole ≡ first ++ rest → OnOk r (out ≡ one ++ rest) → OnOk r (out ≡ old ++ whole)
on_ok_appended r old one out whole first rest e w h = subst (λ l. OnOk r (out ≡ l)) (ap (λ l. l ++ rest) e ∙ append_assoc old first rest ∙ ap (λ l. old ++ l) (sym w)) h
