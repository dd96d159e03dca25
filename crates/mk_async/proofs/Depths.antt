-- The content of an answer to a request for data is the text of a proper tree that nests two deeper
-- than its values.
use Rattle.std.proofs.Common.{◌≡◌, ℕ, ◌-◌, ◌≤◌, nat_lt, true, List, [], ◌∷◌, map, filter, fold, Option, Some, None, option_map, refl, sym, ap, ◌∙◌, subst}
use Rattle.std.specs.BTreeMap.{insert_entry}
use Rattle.std.specs.List.{list_all}
use Rattle.std.specs.List.Sorted.{IsStrictlySortedBy}
use Rattle.std.specs.Map.{keys_of}
use Rattle.std.specs.Ordering.{match_ordering}
use Rattle.std.specs.Str.{IsUtf8, is_utf8}
use Rattle.std.specs.declared.cmp.Ordering.{Ordering}
use Rattle.std.specs.declared.cmp.Ordering.TheVariants.{Less, Equal, Greater}
use Rattle.std.proofs.lemmas.Str.{is_utf8-from_IsUtf8}
use Rattle.mk_base.specs.declared.json.Json as tree
use Rattle.mk_base.specs.declared.tier.Tier.{Tier}
use Rattle.mk_base.specs.Data.{IsDatumText, IsTextOfDepth, IsValueText}
use Rattle.mk_base.specs.Lists.{Each, text_order}
use Rattle.mk_base.specs.Proper.{is_proper, names_rise}
use Rattle.mk_base.specs.Texts.{text_of, object_text}
use Rattle.mk_base.specs.Tiers.{up_to}
use Rattle.mk_base.specs.Trees.{nesting, items_in, text_in}
use Rattle.mk_base.proofs.Lists.{in_filter, none_some, some_same}
use Rattle.mk_buffers.specs.Standing.{HasValueTexts}
use Rattle.mk_buffers_log.proofs.Latest.{latest_in}
use Rattle.mk_json.proofs.LevelTests.{keys_of_members, proper-Object}
use Rattle.mk_json.proofs.OfOutlines.{names_rise-sorted}
use Rattle.mk_plan.specs.declared.Plan.{Plan}
use Rattle.mk_plan.specs.Asks.{Lookup, entity_of}
use Rattle.mk_plan.specs.Deliveries.{Supply, Timed}
use Rattle.mk_plan.specs.Inputs.{latest, value_at}
use Rattle.mk_plan_check.specs.Nesting.{nesting_of}
use Rattle.mk_plan_check.proofs.Scanning.{nesting_is}
use Rattle.mk_async.specs.inner.Content.{AreContents, AreNamed, FindsValues, Texts, put_attr, put_named, put_value, values_in, values_of, wants_text}
use Rattle.mk_async.specs.Forms.{each_passes}
use Rattle.mk_async.specs.inner.Known.{Members}
use Rattle.mk_async.specs.inner.Related.{fits, texts}
use Rattle.mk_async.proofs.Relating.{fits_object, text_object}
use Rattle.mk_base.proofs.Counts.{at_most_test, test_at_most}
use Rattle.mk_base.proofs.Bools.{and_holds, first_holds, second_holds}

-- ---- objects of proper trees

-- the text of a proper tree that nests at most this deep
abbrev IsProperOfDepth : ℕ → List ℕ → Type 0
IsProperOfDepth d text = (t : IsTextOfDepth d text) × (is_proper t.tree ≡ true)

abbrev AreProper : ℕ → Texts → Type 0
AreProper d ms = Each (λ (m : List ℕ × List ℕ). IsUtf8 m.0 × IsProperOfDepth d m.1) ms

trees : (d : ℕ) (ms : Texts) → AreProper d ms → (ts : Members) × (texts ts ≡ ms) × (each_passes (fits d) ts ≡ true) × (each_passes is_proper ts ≡ true)
trees d [] a = ([], refl, refl, refl)
trees d (m ∷ ms) a = let t = a.0.1.0 in let r = trees d ms a.1 in (
  (m.0, t.tree) ∷ r.0,
  ap (λ (s : List ℕ). let p : List ℕ × List ℕ = (m.0, s) in p ∷ texts r.0) t.is ∙ ap (λ (l : Texts). m ∷ l) r.1,
  and_holds (fits d t.tree) (each_passes (fits d) r.0) (and_holds _ _ t.whole (and_holds _ _ (at_most_test (nesting t.tree) d t.deep) t.in_range)) r.2,
  and_holds (is_proper t.tree) (each_passes is_proper r.0) a.0.1.1 r.3,
)

names_pass : (d : ℕ) (ms : Texts) → AreProper d ms → list_all is_utf8 (keys_of ms) ≡ true
names_pass d [] a = refl
names_pass d (m ∷ ms) a = and_holds (is_utf8 m.0) (list_all is_utf8 (keys_of ms)) (is_utf8-from_IsUtf8 m.0 a.0.0) (names_pass d ms a.1)

-- an object is the text of a tree that nests one deeper
object_is : (d : ℕ) → nat_lt 0 d ≡ true → (ms : Texts) → names_rise (keys_of ms) ≡ true → AreProper (d - 1) ms → IsProperOfDepth d (object_text ms)
object_is d above ms rise a =
    let r = trees (d - 1) ms a in
    let f = fits_object d above r.0 r.2 in
    let keys : keys_of r.0 ≡ keys_of ms = sym (keys_of_members text_of r.0) ∙ ap keys_of r.1 in (
      record {
        tree = tree.Object r.0;
        whole = first_holds _ _ f;
        in_range = second_holds _ _ (second_holds _ _ f);
        deep = test_at_most (nesting (tree.Object r.0)) d (first_holds _ _ (second_holds _ _ f));
        is = text_object r.0 ∙ ap object_text r.1;
      },
      proper-Object r.0 ∙ and_holds _ _ (and_holds _ _ (ap names_rise keys ∙ rise) (ap (list_all is_utf8) keys ∙ names_pass (d - 1) ms a)) r.3,
    )

-- ---- the values that a lookup finds

abbrev AreValues : Texts → Type 0
AreValues ms = Each (λ (m : List ℕ × List ℕ). IsValueText m.1) ms

entry_put : (k v : List ℕ) → IsValueText v → (ms : Texts) → AreValues ms → AreValues (insert_entry text_order ms k v)
entry_put k v h [] a = (h, tt)
entry_put k v h (m ∷ ms) a = by (text_order k m.0) (entry_put k v h ms a.1)
  where
    by : (o : Ordering) → AreValues (insert_entry text_order ms k v) → AreValues (match_ordering o ((k, v) ∷ m ∷ ms) ((m.0, v) ∷ ms) (m ∷ insert_entry text_order ms k v))
    by Less r = (h, a)
    by Equal r = (h, a.1)
    by Greater r = (a.0, r)

module _ (look : Lookup) (values : FindsValues look) where
  value_put : (e : ℕ) (attr : List ℕ) (o : Option (List ℕ)) → look e attr ≡ o → (done : Texts) → AreValues done → AreValues (put_value done attr o)
  value_put e attr None is done a = a
  value_put e attr (Some v) is done a = entry_put attr v (values e attr v is) done a

  attr_put : (e : ℕ) (o : Option (List ℕ)) (done : Texts) → AreValues done → AreValues (put_named look e done o)
  attr_put e None done a = a
  attr_put e (Some attr) done a = value_put e attr (look e attr) refl done a

  all_put : (e : ℕ) (ts : List tree.Json) (done : Texts) → AreValues done → AreValues (fold (put_attr look e) done ts)
  all_put e [] done a = a
  all_put e (t ∷ ts) done a = all_put e ts (put_attr look e done t) (attr_put e (text_in t) done a)

  are_values : (o : Option ℕ) (ts : Option (List tree.Json)) → AreValues (values_in look o ts)
  are_values None ts = tt
  are_values (Some e) None = tt
  are_values (Some e) (Some ts) = all_put e ts [] tt

-- ---- the content

-- how deep the tree of a text nests is seen in the text
shallow : (text : List ℕ) → IsDatumText text → IsValueText text → IsProperOfDepth 100 text
shallow text d v = (record { tree = d.tree; whole = d.whole; in_range = d.in_range; deep = subst (λ n. n ≤ 100) same v.deep; is = d.is }, d.proper)
  where
    same : nesting v.tree ≡ nesting d.tree
    same = sym (nesting_is v.tree) ∙ ap nesting_of (v.is ∙ sym d.is) ∙ nesting_is d.tree

are_shallow : (ms : Texts) → AreNamed ms → AreValues ms → AreProper 100 ms
are_shallow [] a b = tt
are_shallow (m ∷ ms) a b = ((a.0.0, shallow m.1 a.0.1 b.0), are_shallow ms a.1 b.1)

module _ (P : Plan) (look : Lookup) (values : FindsValues look) where
  abbrev written : Members → Texts
  written ms = map (λ (m : List ℕ × tree.Json). let p : List ℕ × List ℕ = (m.0, object_text (values_of P look m.0 m.1)) in p) ms

  names_written : (ms : Members) → keys_of (written ms) ≡ keys_of ms
  names_written [] = refl
  names_written (m ∷ ms) = ap (λ l. m.0 ∷ l) (names_written ms)

  contents : (ms : Members) → AreContents P look ms → AreProper 101 (written ms)
  contents [] a = tt
  contents (m ∷ ms) a =
      let vs : Texts = values_of P look m.0 m.1 in
      let shown = are_shallow vs a.0.1.1 (are_values look values (entity_of P m.0) (items_in m.1)) in
      ((a.0.0, object_is 101 refl vs (names_rise-sorted (keys_of vs) a.0.1.0) shown), contents ms a.1)

  -- what was written of wants is the text of a proper tree
  pub datum_written : (ms : Members) (text : List ℕ) → IsStrictlySortedBy text_order (keys_of ms) → AreContents P look ms → text ≡ wants_text P look ms → IsDatumText text
  datum_written ms text sorted a so =
      let o = object_is 102 refl (written ms) (ap names_rise (names_written ms) ∙ names_rise-sorted (keys_of ms) sorted) (contents ms a) in
      subst IsDatumText (sym so) (record { tree = o.0.tree; proper = o.1; whole = o.0.whole; in_range = o.0.in_range; deep = o.0.deep; is = o.0.is })

-- what a supply has are values
pub supply_finds : (S : Supply) (x : Tier) → HasValueTexts S → FindsValues (value_at S x)
supply_finds S x h e attr v is = by (latest (filter (λ (t : Timed). up_to t.at x) (S.outputs e attr))) refl is
  where
    by : (o : Option Timed) → latest (filter (λ (t : Timed). up_to t.at x) (S.outputs e attr)) ≡ o → option_map (λ (t : Timed). t.value) o ≡ Some v → IsValueText v
    by None found is = absurd (none_some is)
    by (Some t) found is = subst IsValueText (some_same is) (h.outputs e attr t (in_filter (λ (u : Timed). up_to u.at x) t (S.outputs e attr) (latest_in (filter (λ (u : Timed). up_to u.at x) (S.outputs e attr)) t found)).0)
