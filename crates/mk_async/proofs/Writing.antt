-- What is written for a request for data is the content of its answer, and the text of a tree.
use Rattle.std.proofs.Common.{◌≡◌, ℕ, ◌+◌, ◌<◌, length, get_or, take, IsSome, List, [], ◌∷◌, ◌++◌, map, flat_map, filter_map, fold, Option, Some, None, option_map, option_and_then, codes, refl, sym, ap, ◌∙◌, subst, append_assoc, append-nil, true≢false}
use Rattle.std.specs.BTreeMap.{insert_entry}
use Rattle.std.specs.List.{cons_option, join_with_byte}
use Rattle.std.specs.Ordering.{match_ordering}
use Rattle.std.specs.declared.cmp.Ordering.{Ordering}
use Rattle.std.specs.declared.cmp.Ordering.TheVariants.{Less, Equal, Greater}
use Rattle.std.proofs.lemmas.List.{take_more}
use Rattle.std.proofs.lemmas.Map.Lookups.{exact_bytes}
use Rattle.mk_base.specs.declared.json.Json as tree
use Rattle.mk_base.specs.Lists.{Each, all_there, placed, text_order}
use Rattle.mk_base.specs.Texts.{object_text}
use Rattle.mk_base.specs.Trees.{text_in, items_in, texts_in}
use Rattle.mk_base.proofs.Lists.{flat_map_append, none_some, some_same}
use Rattle.mk_plan.specs.declared.Plan.{Plan}
use Rattle.mk_plan.specs.Asks.{Lookup, Named, Get, content_text, entity_of, ordered}
use Rattle.mk_plan.specs.Asks as asks
use Rattle.mk_async.specs.Asked.{get_in, named_by}
use Rattle.mk_async.specs.inner.Content.{Texts, listed, member_text, put_attr, put_named, put_value, values_in, values_of, want_text, wants_text}
use Rattle.mk_async.specs.inner.Known.{Members}
use Rattle.mk_async.proofs.Giving.{named_map}
use Rattle.mk_async.proofs.Relating.{put_in}
use Rattle.mk_async.proofs.Testing.{made}
use Rattle.mk_base.proofs.Items.{each_behind}

-- ---- commas

abbrev pub shown : List ℕ × List ℕ → List ℕ
shown m = member_text m.0 m.1

join_behind : (x : List ℕ) (ms : Texts) → join_with_byte 44 (x ∷ map shown ms) ≡ x ++ flat_map (λ (m : List ℕ × List ℕ). codes "," ++ shown m) ms
join_behind x [] = sym (append-nil x)
join_behind x (m ∷ ms) = ap (λ l. x ++ (44 ∷ l)) (join_behind (shown m) ms)

regroup : (a b c d e : List ℕ) → (((a ++ b) ++ c) ++ d) ++ e ≡ a ++ (b ++ ((c ++ d) ++ e))
regroup a b c d e = simp append_assoc

-- an object from its first member on
pub object_begun : (m : List ℕ × List ℕ) (ms : Texts) (out : List ℕ) → (((out ++ codes "{") ++ shown m) ++ flat_map (λ (m : List ℕ × List ℕ). codes "," ++ shown m) ms) ++ codes "}" ≡ out ++ object_text (m ∷ ms)
object_begun m ms out = regroup out (codes "{") (shown m) (flat_map (λ (m : List ℕ × List ℕ). codes "," ++ shown m) ms) (codes "}") ∙ ap (λ l. out ++ (codes "{" ++ (l ++ codes "}"))) (sym (join_behind (shown m) ms))

-- the same as it is appended part by part
pub object_written : (ms more : Texts) (m : List ℕ × List ℕ) (out a b c d : List ℕ) → ms ≡ m ∷ more → a ≡ out ++ codes "{" → b ≡ a ++ shown m → c ≡ b ++ flat_map (λ (m : List ℕ × List ℕ). codes "," ++ shown m) more → d ≡ c ++ codes "}" → d ≡ out ++ object_text ms
object_written ms more m out a b c d whole ea eb ec ed = ed ∙ ap (λ l. l ++ codes "}") (ec ∙ ap (λ l. l ++ flat_map (λ (m : List ℕ × List ℕ). codes "," ++ shown m) more) (eb ∙ ap (λ l. l ++ shown m) ea))
    ∙ object_begun m more out ∙ ap (λ (l : Texts). out ++ object_text l) (sym whole)

-- one item more
module _ {X : Type 0} (xs : List X) (i : ℕ) (x : X) (below : i < length xs) (is : x ≡ get_or xs i x) where
  taken : take (i + 1) xs ≡ take i xs ++ x ∷ []
  taken = take_more xs i x below ∙ ap (λ (y : X). take i xs ++ y ∷ []) (sym is)

  pub each_more : (Q : X → Type 0) → Each Q (take i xs) → Q x → Each Q (take (i + 1) xs)
  each_more Q all h = subst (Each Q) (sym taken) (each_behind Q (take i xs) x all h)

  pub commas_more : (f : X → List ℕ) (out a b c : List ℕ) → a ≡ out ++ flat_map (λ y. codes "," ++ f y) (take i xs) → b ≡ a ++ codes "," → c ≡ b ++ f x → c ≡ out ++ flat_map (λ y. codes "," ++ f y) (take (i + 1) xs)
  commas_more f out a b c ea eb ec =
      let part : List ℕ = codes "," ++ f x in
      ec ∙ ap (λ l. l ++ f x) (eb ∙ ap (λ l. l ++ codes ",") ea) ∙ regrouped out (flat_map (λ y. codes "," ++ f y) (take i xs)) (codes ",") (f x)
      ∙ ap (λ l. out ++ l) (sym (flat_map_append (λ (y : X). codes "," ++ f y) (take i xs) (x ∷ []))) ∙ ap (λ l. out ++ flat_map (λ y. codes "," ++ f y) l) (sym taken)
    where
      regrouped : (p q r s : List ℕ) → ((p ++ q) ++ r) ++ s ≡ p ++ (q ++ ((r ++ s) ++ []))
      regrouped p q r s = simp (append_assoc, append-nil)

-- ---- the values of an entity

entry_put : (k v : List ℕ) (done : Texts) → insert_entry text_order done k v ≡ put_in done (k, v)
entry_put k v [] = refl
entry_put k v (m ∷ done) = by (text_order k m.0) refl (entry_put k v done)
  where
    by : (o : Ordering) → text_order k m.0 ≡ o → insert_entry text_order done k v ≡ put_in done (k, v)
        → match_ordering o ((k, v) ∷ m ∷ done) ((m.0, v) ∷ done) (m ∷ insert_entry text_order done k v) ≡ placed o (k, v) m done (put_in done (k, v))
    by Less e rest = refl
    by Equal e rest = ap (λ (n : List ℕ). let p : List ℕ × List ℕ = (n, v) in p ∷ done) (sym (exact_bytes k m.0 e))
    by Greater e rest = ap (λ (l : Texts). m ∷ l) rest

module _ (look : Lookup) where
  -- a value with its name, if it is there
  abbrev pub named : List ℕ → Option (List ℕ) → Option (List ℕ × List ℕ)
  named attr o = option_map (λ text. let p : List ℕ × List ℕ = (attr, text) in p) o

  abbrev found : ℕ → List ℕ → Option (List ℕ × List ℕ)
  found e attr = named attr (look e attr)

  all_put : (e : ℕ) (js : List tree.Json) (attrs : List (List ℕ)) (done : Texts) → all_there (map text_in js) ≡ Some attrs → fold (put_attr look e) done js ≡ fold put_in done (filter_map (found e) attrs)
  all_put e [] attrs done h = ap (λ l. fold put_in done (filter_map (found e) l)) (some_same h)
  all_put e (j ∷ js) attrs done h = let m = made text_in j js attrs h in
      ap (λ o. fold (put_attr look e) (put_named look e done o) js) m.2 ∙ by m.0 m.1 (λ l. all_put e js m.1 l m.3) (look e m.0) refl ∙ ap (λ l. fold put_in done (filter_map (found e) l)) (sym m.4)
    where
      by : (attr : List ℕ) (rest : List (List ℕ)) → ((l : Texts) → fold (put_attr look e) l js ≡ fold put_in l (filter_map (found e) rest)) → (o : Option (List ℕ)) → look e attr ≡ o
          → fold (put_attr look e) (put_value done attr (look e attr)) js ≡ fold put_in done (filter_map (found e) (attr ∷ rest))
      by attr rest more None is = ap (λ o. fold (put_attr look e) (put_value done attr o) js) is ∙ more done
          ∙ ap (λ o. fold put_in done (cons_option (named attr o) (filter_map (found e) rest))) (sym is)
      by attr rest more (Some v) is = ap (λ o. fold (put_attr look e) (put_value done attr o) js) is ∙ more (insert_entry text_order done attr v)
          ∙ ap (λ l. fold put_in l (filter_map (found e) rest)) (entry_put attr v done)
          ∙ ap (λ o. fold put_in done (cons_option (named attr o) (filter_map (found e) rest))) (sym is)

  pub no_entity : (attrs : List (List ℕ)) → filter_map (λ (attr : List ℕ). named attr None) attrs ≡ []
  no_entity [] = refl
  no_entity (attr ∷ attrs) = no_entity attrs

  abbrev pub asked_of : Option ℕ → List (List ℕ) → Texts
  asked_of o attrs = filter_map (λ attr. named attr (option_and_then (λ e. look e attr) o)) attrs

  values_same : (o : Option ℕ) (t : tree.Json) (attrs : List (List ℕ)) → texts_in t ≡ Some attrs → values_in look o (items_in t) ≡ ordered (asked_of o attrs)
  values_same None t attrs h = sym (ap ordered (no_entity attrs))
  values_same (Some e) t attrs h = by (items_in t) h
    where
      by : (o : Option (List tree.Json)) → option_and_then (λ js. all_there (map text_in js)) o ≡ Some attrs → listed look e o ≡ ordered (asked_of (Some e) attrs)
      by None h = absurd (none_some h)
      by (Some js) h = all_put e js attrs [] h

  module _ (P : Plan) where
    abbrev pub content : Named (List (List ℕ)) → List ℕ × List ℕ
    content w = (w.name, object_text (ordered (asks.values_of P look w)))

    pub wants_same : (ms : Members) (wants : List (Named (List (List ℕ)))) → named_by texts_in ms ≡ Some wants → wants_text P look ms ≡ content_text P look (Get wants)
    wants_same ms wants e = ap object_text (named_map texts_in (λ id t. let p : List ℕ × List ℕ = (id, object_text (values_of P look id t)) in p) content
        (λ t w h. ap (λ (l : Texts). let p : List ℕ × List ℕ = (w.name, object_text l) in p) (values_same (entity_of P w.name) t w.value h)) ms wants e)

    shown_again : (ms : Members) → flat_map (λ m. codes "," ++ want_text P look m) ms ≡ flat_map (λ (m : List ℕ × List ℕ). codes "," ++ shown m) (map (λ (m : List ℕ × tree.Json). let p : List ℕ × List ℕ = (m.0, object_text (values_of P look m.0 m.1)) in p) ms)
    shown_again [] = refl
    shown_again (m ∷ ms) = ap (λ l. (codes "," ++ want_text P look m) ++ l) (shown_again ms)

    pub wants_written : (ms more : Members) (m : List ℕ × tree.Json) (out a b c d : List ℕ) → ms ≡ m ∷ more → a ≡ out ++ codes "{" → b ≡ a ++ want_text P look m → c ≡ b ++ flat_map (λ m. codes "," ++ want_text P look m) more → d ≡ c ++ codes "}"
        → d ≡ out ++ wants_text P look ms
    wants_written ms more m out a b c d whole ea eb ec ed =
        let written : Members → Texts = map (λ (m : List ℕ × tree.Json). let p : List ℕ × List ℕ = (m.0, object_text (values_of P look m.0 m.1)) in p) in
        object_written (written ms) (written more) (m.0, object_text (values_of P look m.0 m.1)) out a b c d (ap written whole) ea eb (ec ∙ ap (λ l. b ++ l) (shown_again more)) ed

    -- what was written is the content of the request that was read
    pub content_written : (ms : Members) (text : List ℕ) → IsSome (get_in ms) → text ≡ wants_text P look ms → option_map (content_text P look) (get_in ms) ≡ Some text
    content_written ms text there so = by (named_by texts_in ms) refl there
      where
        by : (o : Option (List (Named (List (List ℕ))))) → named_by texts_in ms ≡ o → IsSome (option_map Get o) → option_map (content_text P look) (option_map Get o) ≡ Some text
        by None e there = absurd (true≢false (sym there))
        by (Some wants) e there = ap Some (sym (so ∙ wants_same ms wants e))
