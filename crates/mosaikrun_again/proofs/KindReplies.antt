-- What a simulator within the program replies is what `read` gives of its text.
use Rattle.std.proofs.Common.{◌≡◌, ℕ, ◌+◌, ◌^◌, ◌<◌, ◌≤◌, ℤ, pos, Bool, true, false, List, [], ◌∷◌, ◌++◌, length, map, fold, is_some, slice_get, Option, Some, None, unwrap_or, option_map, option_and_then, refl, sym, ◌∙◌, subst, arith, codes, if◌then◌else◌}
use Rattle.std.specs.Prelude.{option_to_list}
use Rattle.std.proofs.lemmas.Bool.{and_from, lt-ltb}
use Rattle.std.proofs.lemmas.Fmt.{IsAscii-from_digits}
use Rattle.std.proofs.lemmas.Slice.Eq.{bytes_eq-Decides}
use Rattle.std.proofs.lemmas.Str.{IsUtf8-from_ascii, is_utf8-from_IsUtf8}
use Rattle.std.specs.BTreeMap.{insert_entry}
use Rattle.std.specs.Cmp.Lexicographic.{slice_cmp}
use Rattle.std.specs.declared.cmp.Ordering.TheVariants.{Less, Equal, Greater}
use Rattle.std.specs.Fmt.{decimal, digits}
use Rattle.std.specs.List.{find, list_all, range_with_len}
use Rattle.std.specs.List.Sorted.{IsStrictlySortedBy}
use Rattle.std.specs.Map.{keys_of}
use Rattle.std.specs.Ordering.{match_ordering, nat_cmp}
use Rattle.std.specs.Str.{chars, is_utf8}
use Rattle.mk_base.specs.declared.json.Json as tree
use Rattle.mk_base.specs.Lists.{Each, same_text, text_order, last_of}
use Rattle.mk_base.specs.Proper.{is_proper}
use Rattle.mk_base.specs.Trees as trees
use Rattle.mk_base.specs.Trees.{deepest, nesting, Member}
use Rattle.mk_base.proofs.Levels.{nesting_items, nesting_members}
use Rattle.mk_base.proofs.Lists.{none_some, some_same}
use Rattle.mk_base.proofs.Putting.{put_rises}
use Rattle.mk_json.proofs.Back.{parsed-text_of}
use Rattle.mk_json.proofs.Layers.{folded-Null, folded-Whole}
use Rattle.mk_json.proofs.LevelTests.{proper-List, proper-Object}
use Rattle.mk_json.proofs.OfOutlines.{names_rise-sorted, proper-Null, proper-Whole}
use Rattle.mk_plan.specs.declared.Item.{Item}
use Rattle.mk_plan.specs.declared.Item.TheVariants.{Step, GetData, Answer, Refuse}
use Rattle.mk_plan.specs.declared.Message.{Message}
use Rattle.mk_plan.specs.declared.Message.TheVariants.{Success}
use Rattle.mk_plan.specs.declared.Want.{Want}
use Rattle.mk_message.specs.Written.{message_text, message_tree}
use Rattle.mk_message.proofs.ReadBack.{message_of-written, range-framed}
use Rattle.mk_scenario.specs.declared.parts.Scenario.{Scenario}
use Rattle.mk_run_laws.specs.Handshake.{setup_count}
use Rattle.mk_local.specs.declared.turn.Turn.{Turn}
use Rattle.mk_local.specs.declared.turn.Turn.TheVariants.{Constant, Counter, Sum, Relay, Battery, Controller}
use Rattle.mk_local.specs.declared.entity.Entity.{Entity}
use Rattle.mk_local.specs.Data.{data_content, entity_named, output_time, outputs, part, place_named, placed, time_part}
use Rattle.mk_local.specs.Kinds.{output_of}
use Rattle.mk_local.specs.Replies.{after_item, item_reply, replies}
use Rattle.mk_local.specs.Simulators.{Simulator}
use Rattle.mk_local.specs.Steps.{next_of, number_or_null, step_content}
use Rattle.mk_local.proofs.DataRight.{more_digits}
use Rattle.mk_run_local.specs.Made.{kind_reply_of, made, no_reply}
use Rattle.mk_record_laws.specs.Readable.{IsHeard}
use Rattle.mk_plan.specs.Messages.{is_message_in_range}

-- ---- texts

decimal_utf8 : (n : ℕ) → is_utf8 (decimal n) ≡ true
unfolding digits
decimal_utf8 n = is_utf8-from_IsUtf8 (decimal n) (IsUtf8-from_ascii (decimal n) (IsAscii-from_digits (decimal n) (more_digits 64 n [] tt)))

output_utf8 : (T : Turn) → is_utf8 (output_of T) ≡ true
unfolding is_utf8 chars lib.Utf8.encode
output_utf8 Constant = refl
output_utf8 Counter = refl
output_utf8 Sum = refl
output_utf8 Relay = refl
output_utf8 Battery = refl
output_utf8 Controller = refl

time_utf8 : is_utf8 (codes "time") ≡ true
unfolding is_utf8 chars lib.Utf8.encode
time_utf8 = refl

-- ---- the members of a reply to a GetData

-- the name is UTF-8, and the value is proper and nests at most one deep
record IsFine (m : Member) : Type 0 where
  name : is_utf8 m.0 ≡ true
  proper : is_proper m.1 ≡ true
  shallow : nesting m.1 ≤ 1

abbrev FineIfThere : Option Member → Type 0
FineIfThere None = Unit {0}
FineIfThere (Some m) = IsFine m

-- the names rise, and each member is fine
record AreFine (ms : List Member) : Type 0 where
  rise : IsStrictlySortedBy (slice_cmp nat_cmp) (keys_of ms)
  fine : Each IsFine ms

put_fine : (k : List ℕ) (v : tree.Json) (ms : List Member) → IsFine (k, v) → Each IsFine ms → Each IsFine (insert_entry text_order ms k v)
put_fine k v [] f all = (f, tt)
put_fine k v (m ∷ ms) f all = elim (slice_cmp nat_cmp k m.0) as (λ o. Each IsFine (match_ordering o ((k, v) ∷ m ∷ ms) ((m.0, v) ∷ ms) (m ∷ insert_entry text_order ms k v))) [
  | Less ↦ (f, all)
  | Equal ↦ (record { name = all.0.name; proper = f.proper; shallow = f.shallow }, all.1)
  | Greater ↦ (all.0, put_fine k v ms f all.1)
]

placed_fine : (ms : List Member) (o : Option Member) → FineIfThere o → AreFine ms → AreFine (placed ms o)
placed_fine ms None f all = all
placed_fine ms (Some m) f all = record { rise = put_rises m.0 m.1 ms all.rise; fine = put_fine m.0 m.1 ms f all.fine }

whole_flat : (n : ℤ) → nesting (tree.Whole n) ≡ 0
whole_flat n = folded-Whole _ _ n

-- an object of one whole number
one_fine : (eid attr : List ℕ) (n : ℤ) → is_utf8 eid ≡ true → is_utf8 attr ≡ true → IsFine (eid, tree.Object ((attr, tree.Whole n) ∷ []))
one_fine eid attr n named given =
    let flat = whole_flat n in
    let deep = nesting_members ((attr, tree.Whole n) ∷ []) in record {
      name = named;
      proper = proper-Object ((attr, tree.Whole n) ∷ []) ∙ and_from _ _ (and_from _ _ refl (and_from _ _ given refl)) (and_from _ _ (proper-Whole n) refl);
      shallow = omega (arith, flat, deep);
    }

found_passes : (p : ℕ → Bool) (xs : List ℕ) (x : ℕ) → find p xs ≡ Some x → p x ≡ true
found_passes p [] x e = absurd (none_some e)
found_passes p (y ∷ ys) x e = by (p y) refl e (λ q. found_passes p ys x q)
  where
    by : (b : Bool) → p y ≡ b → (if b then Some y else find p ys) ≡ Some x → (find p ys ≡ Some x → p x ≡ true) → p x ≡ true
    by true is e more = subst (λ (z : ℕ). p z ≡ true) (some_same e) is
    by false is e more = more e

-- an entity that has a name is called by a number
named_utf8 : (eid : List ℕ) (es : List Entity) (e : Entity) → entity_named eid es ≡ Some e → is_utf8 eid ≡ true
named_utf8 eid es e is = by (place_named (length es) eid) refl is
  where
    by : (o : Option ℕ) → place_named (length es) eid ≡ o → option_and_then (slice_get es) o ≡ Some e → is_utf8 eid ≡ true
    by None q is = absurd (none_some is)
    by (Some k) q is =
        let same : decimal k ≡ eid = (bytes_eq-Decides (decimal k) eid).0 (found_passes (λ j. same_text (decimal j) eid) (range_with_len 0 (length es)) k q) in
        subst (λ (t : List ℕ). is_utf8 t ≡ true) same (decimal_utf8 k)

module _ (T : Turn) (es : List Entity) where
  -- what there is an output of is called by a number, and is the kind's output
  part_fine : (w : Want) → FineIfThere (part T es w)
  part_fine w = by_attr (same_text w.attr (output_of T)) refl
    where
      made_part : ℤ → Member
      made_part n = (w.eid, tree.Object ((w.attr, tree.Whole n) ∷ []))

      by_out : (o : Option ℤ) → is_utf8 w.eid ≡ true → is_utf8 w.attr ≡ true → FineIfThere (option_map (λ n. let p : Member = (w.eid, tree.Object ((w.attr, tree.Whole n) ∷ [])) in p) o)
      by_out None named given = tt
      by_out (Some n) named given = one_fine w.eid w.attr n named given

      by_entity : (o : Option Entity) → entity_named w.eid es ≡ o → is_utf8 w.attr ≡ true → FineIfThere (option_map (λ n. let p : Member = (w.eid, tree.Object ((w.attr, tree.Whole n) ∷ [])) in p) (option_and_then (λ (e : Entity). e.out) o))
      by_entity None is given = tt
      by_entity (Some e) is given = by_out e.out (named_utf8 w.eid es e is) given

      by_attr : (b : Bool) → same_text w.attr (output_of T) ≡ b → FineIfThere (option_map (λ n. let p : Member = (w.eid, tree.Object ((w.attr, tree.Whole n) ∷ [])) in p) (if b then option_and_then (λ (e : Entity). e.out) (entity_named w.eid es) else None))
      by_attr true is = by_entity (entity_named w.eid es) refl (subst (λ (t : List ℕ). is_utf8 t ≡ true) (sym ((bytes_eq-Decides w.attr (output_of T)).0 is)) (output_utf8 T))
      by_attr false is = tt

  outputs_fine : (ms : List Member) (wants : List Want) → AreFine ms → AreFine (fold (λ (done : List Member) (w : Want). placed done (part T es w)) ms wants)
  outputs_fine ms [] all = all
  outputs_fine ms (w ∷ wants) all = outputs_fine (placed ms (part T es w)) wants (placed_fine ms (part T es w) (part_fine w) all)

  time_fine : (o : Option ℤ) → FineIfThere (option_map (λ n. let p : Member = (codes "time", tree.Whole n) in p) o)
  time_fine None = tt
  time_fine (Some n) = let flat = whole_flat n in record { name = time_utf8; proper = proper-Whole n; shallow = omega (arith, flat) }

  none_fine : AreFine []
  unfolding IsStrictlySortedBy
  none_fine = record { rise = tt; fine = tt }

  members_fine : (wanted : List Want) → AreFine (placed (outputs T es wanted) (time_part es))
  members_fine wanted = placed_fine (outputs T es wanted) (time_part es) (time_fine (output_time es)) (outputs_fine [] wanted none_fine)

names_pass : (ms : List Member) → Each IsFine ms → list_all is_utf8 (keys_of ms) ≡ true
names_pass [] all = refl
names_pass (m ∷ ms) all = and_from _ _ all.0.name (names_pass ms all.1)

values_pass : (ms : List Member) → Each IsFine ms → list_all (λ (m : Member). is_proper m.1) ms ≡ true
values_pass [] all = refl
values_pass (m ∷ ms) all = and_from _ _ all.0.proper (values_pass ms all.1)

values_flat : (ms : List Member) → Each IsFine ms → deepest (map (λ (m : Member). nesting m.1) ms) ≤ 1
values_flat [] all = omega arith
values_flat (m ∷ ms) all = let a = all.0.shallow in let b = values_flat ms all.1 in omega (arith, a, b)

-- ---- the content of a reply

-- it is proper, and nests at most two deep
record IsFlat (content : tree.Json) : Type 0 where
  proper : is_proper content ≡ true
  shallow : nesting content ≤ 2

object_flat : (ms : List Member) → AreFine ms → IsFlat (tree.Object ms)
object_flat ms all =
    let a = values_flat ms all.fine in
    let b = nesting_members ms in record {
      proper = proper-Object ms ∙ and_from _ _ (and_from _ _ (names_rise-sorted (keys_of ms) all.rise) (names_pass ms all.fine)) (values_pass ms all.fine);
      shallow = omega (arith, a, b);
    }

number_flat : (o : Option ℤ) → IsFlat (number_or_null o)
number_flat None = let flat : nesting tree.Null ≡ 0 = folded-Null _ _ in record { proper = proper-Null; shallow = omega (arith, flat) }
number_flat (Some n) = let flat = whole_flat n in record { proper = proper-Whole n; shallow = omega (arith, flat) }

-- ---- the replies to items in order

-- a success with an id below this bound and such a content
record IsOwn (bound : ℕ) (m : Message) : Type 0 where
  id : ℕ
  content : tree.Json
  is : m ≡ Success id content
  low : id < bound
  flat : IsFlat content

reply_own : (bound : ℕ) (L : Simulator) (id : ℕ) (item : Item) (m : Message) → id < bound → item_reply L id item ≡ Some m → IsOwn bound m
reply_own bound L id (Step at inputs advance) m low is = record { id = id; content = step_content L at.time inputs; is = sym (some_same is); low = low; flat = number_flat (next_of L at.time inputs) }
reply_own bound L id (GetData wanted) m low is = record { id = id; content = data_content L.kind L.entities wanted; is = sym (some_same is); low = low; flat = object_flat _ (members_fine L.kind L.entities wanted) }
reply_own bound L id (Answer asked content) m low is = absurd (none_some is)
reply_own bound L id (Refuse asked reason) m low is = absurd (none_some is)

replies_own : (bound : ℕ) (L : Simulator) (id : ℕ) (items : List Item) → id + length items ≤ bound → Each (IsOwn bound) (replies L id items)
replies_own bound L id [] low = tt
replies_own bound L id (item ∷ items) low = by (item_reply L id item) refl (λ n few. replies_own bound (after_item L item) n items (omega (arith, few, low)))
  where
    by : (o : Option Message) → item_reply L id item ≡ o → ((n : ℕ) → n ≤ id + 1 → Each (IsOwn bound) (replies (after_item L item) n items)) → Each (IsOwn bound) (option_to_list o ++ replies (after_item L item) (if is_some o then id + 1 else id) items)
    by None is more = more id (omega arith)
    by (Some m) is more = (reply_own bound L id item m (omega (arith, low)) is, more (id + 1) (omega arith))

last_own : (bound : ℕ) (ms : List Message) (m : Message) → Each (IsOwn bound) ms → last_of ms ≡ Some m → IsOwn bound m
last_own bound [] m all is = absurd (none_some is)
last_own bound (x ∷ []) m all is = subst (IsOwn bound) (some_same is) all.0
last_own bound (x ∷ y ∷ ms) m all is = last_own bound (y ∷ ms) m all.1 is

-- what a kind replies to the last of these items
kind_own : (bound : ℕ) (rows : List Turn) (S : Scenario) (i : ℕ) (items : List Item) → setup_count S i + length items < bound → IsOwn bound (kind_reply_of rows S i items)
kind_own bound rows S i items low = by_sim (made rows S i)
  where
    nothing : IsOwn bound no_reply
    nothing = record { id = 0; content = tree.Null; is = refl; low = omega (arith, low); flat = number_flat None }

    by_last : (L : Simulator) (o : Option Message) → last_of (replies L (setup_count S i) items) ≡ o → IsOwn bound (unwrap_or o no_reply)
    by_last L None is = nothing
    by_last L (Some m) is = last_own bound (replies L (setup_count S i) items) m (replies_own bound L (setup_count S i) items (omega (arith, low))) is

    by_sim : (o : Option Simulator) → IsOwn bound (unwrap_or (option_and_then (λ L. last_of (replies L (setup_count S i) items)) o) no_reply)
    by_sim None = nothing
    by_sim (Some L) = by_last L (last_of (replies L (setup_count S i) items)) refl

-- ---- read of its text

success_heard : (id : ℕ) (content : tree.Json) → id < 2 ^ 63 → IsFlat content → is_message_in_range (Success id content) ≡ true → IsHeard (Success id content)
success_heard id content low flat fits =
    let ts : List tree.Json = tree.Whole (pos 1) ∷ tree.Whole (pos id) ∷ content ∷ [] in
    let one = whole_flat (pos 1) in
    let number = whole_flat (pos id) in
    let inner = flat.shallow in
    let levels = nesting_items ts in
    let deep : nesting (tree.List ts) ≤ 3 = omega (arith, one, number, inner, levels) in
    let proper : is_proper (tree.List ts) ≡ true = proper-List ts ∙ and_from _ _ (proper-Whole (pos 1)) (and_from _ _ (proper-Whole (pos id)) (and_from _ _ flat.proper refl)) in
    let ranges : trees.is_in_range (tree.List ts) ≡ true = range-framed (tree.List ts) content 1 id refl (omega arith) (omega (arith, low)) fits in
    let m : Message = Success id content in record {
      payload = message_text m;
      read = message_of-written m (message_tree m) (message_text m) [] refl refl refl (λ shallow. parsed-text_of (message_tree m) proper ranges shallow) (lt-ltb id (2 ^ 63) low) (omega (arith, deep));
      shallow = omega (arith, deep);
    }

own_heard : (m : Message) → IsOwn (2 ^ 63) m → is_message_in_range m ≡ true → IsHeard m
own_heard m own fits = subst IsHeard (sym own.is) (success_heard own.id own.content own.low own.flat (subst (λ (n : Message). is_message_in_range n ≡ true) own.is fits))

-- a kind's reply that is in range is read of some payload, where the ids are below 2^63
pub kind_heard : (rows : List Turn) (S : Scenario) (i : ℕ) (items : List Item) (m : Message) → setup_count S i + length items < 2 ^ 63 → m ≡ kind_reply_of rows S i items → is_message_in_range m ≡ true → IsHeard m
kind_heard rows S i items m low is fits = own_heard m (subst (IsOwn (2 ^ 63)) (sym is) (kind_own (2 ^ 63) rows S i items low)) fits
