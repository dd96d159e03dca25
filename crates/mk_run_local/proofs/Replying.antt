-- A simulator whose numbers are within 64 bits replies with a success whose numbers are in the
-- range of trees.
use Rattle.std.proofs.Common.{◌≡◌, ℕ, zero, suc, ◌+◌, ℤ, pos, negsuc, ◌+ℤ◌, ◌≤ℤ◌, ◌==◌, int_lt, int_le, true, false, cond, ◌&&◌, List, [], ◌∷◌, length, map, filter_map, fold, slice_get, is_some, Option, Some, None, option_map, option_and_then, refl, ap, ◌∙◌, subst, arith, codes}
use Rattle.std.proofs.lemmas.Int.{ints}
use Rattle.std.specs.List.{enumerate_from, list_all, cons_option}
use Rattle.std.specs.BTreeMap.{insert_entry}
use Rattle.std.specs.Ordering.{nat_cmp, match_ordering}
use Rattle.std.specs.declared.cmp.Ordering.TheVariants.{Less, Equal, Greater}
use Rattle.std.specs.Cmp.Lexicographic.{slice_cmp}
use Rattle.mk_base.specs.declared.json.Json as tree
use Rattle.mk_base.specs.Lists.{Each, same_text, text_order}
use Rattle.mk_base.specs.Trees.{is_in_range, in_range, Member}
use Rattle.mk_base.proofs.OnTrees.{trees_compute}
use Rattle.mk_base.specs.Numbers.{FitsIn64}
use Rattle.mk_json.proofs.LevelTests.{range-Object}
use Rattle.mk_plan.specs.declared.Input.{Input}
use Rattle.mk_plan.specs.declared.Want.{Want}
use Rattle.mk_plan.specs.declared.Item.{Item}
use Rattle.mk_plan.specs.declared.Item.TheVariants.{Step, GetData, Answer, Refuse}
use Rattle.mk_plan.specs.declared.Message.{Message}
use Rattle.mk_plan.specs.declared.Message.TheVariants.{Success}
use Rattle.mk_plan.specs.Plans.{is_time_based}
use Rattle.mk_local.specs.declared.turn.Turn.{Turn}
use Rattle.mk_local.specs.declared.turn.EntityTurn.{EntityTurn}
use Rattle.mk_local.specs.declared.entity.Entity.{Entity}
use Rattle.mk_local.specs.Kinds.{type_of, output_of}
use Rattle.mk_local.specs.Rows.{row, clamped}
use Rattle.mk_local.specs.Simulators.{Simulator}
use Rattle.mk_local.specs.Steps.{earlier, entity_step, least, number_or_null, own_next, next_of, step_content, turns}
use Rattle.mk_local.specs.Data.{data_content, entity_named, later_at, later_made, output, output_time, outputs, part, place_named, placed, time_part}
use Rattle.mk_local.specs.Replies.{item_reply}
use Rattle.mk_run_local.specs.Calls.{IsFitSuccess}
use Rattle.mk_run_local.specs.inner.Standing.{IsShortIfThere, IsFitEntity, IsFit}
use Rattle.mk_run_local.proofs.Numbers.{clamped_short, next_short}

abbrev InRange : Member → Type 0
InRange m = is_in_range m.1 ≡ true

short_in_range : (n : ℤ) → FitsIn64 n → in_range n ≡ true
short_in_range n h = let low : negsuc 9223372036854775807 ≤ℤ n = h.0 in let high : n ≤ℤ pos 18446744073709551615 = omega (arith, ints, h.1) in
    let a : int_le (negsuc 9223372036854775807) n ≡ true = grind (arith, ints) in
    let b : int_le n (pos 18446744073709551615) ≡ true = grind (arith, ints) in
    simp (a, b) refl

whole_ranged : (n : ℤ) → FitsIn64 n → is_in_range (tree.Whole n) ≡ true
unfolding trees_compute
whole_ranged n h = short_in_range n h

number_ranged : (o : Option ℤ) → IsShortIfThere o → is_in_range (number_or_null o) ≡ true
unfolding trees_compute
number_ranged None h = refl
number_ranged (Some n) h = short_in_range n h

-- ---- the reply to a Step

earlier_short : (best : Option ℤ) (n : ℤ) → IsShortIfThere best → FitsIn64 n → IsShortIfThere (earlier best n)
earlier_short None n h k = k
earlier_short (Some b) n h k = elim (int_lt n b) as (λ c. FitsIn64 (cond c n b)) [ true ↦ k | false ↦ h ]

least_from : (best : Option ℤ) (ns : List ℤ) → IsShortIfThere best → Each FitsIn64 ns → IsShortIfThere (fold earlier best ns)
least_from best [] h all = h
least_from best (n ∷ ns) h all = least_from (earlier best n) ns (earlier_short best n h all.0) all.1

cons_short : (o : Option ℤ) (ns : List ℤ) → IsShortIfThere o → Each FitsIn64 ns → Each FitsIn64 (cons_option o ns)
cons_short None ns h all = all
cons_short (Some n) ns h all = (h, all)

module _ (L : Simulator) (time : ℤ) (inputs : List Input) where
  abbrev turn_at : ℕ × Entity → EntityTurn
  turn_at p = row L.kind (entity_step L time inputs p.0 p.1)

  nexts_short : (k : ℕ) (es : List Entity) → Each FitsIn64 (filter_map (λ (t : EntityTurn). t.next) (map turn_at (enumerate_from k es)))
  nexts_short k [] = tt
  nexts_short k (e ∷ es) = cons_short (turn_at (k, e)).next (filter_map (λ (t : EntityTurn). t.next) (map turn_at (enumerate_from (k + 1) es))) (next_short L.kind (entity_step L time inputs k e)) (nexts_short (k + 1) es)

  own_short : (given : Option ℤ) → IsShortIfThere given → IsShortIfThere (own_next L time given)
  own_short given h = elim ((length L.entities == 0) && is_time_based (type_of L.kind)) as (λ b. IsShortIfThere (cond b (Some (clamped (time +ℤ L.step))) given)) [ true ↦ clamped_short (time +ℤ L.step) | false ↦ h ]

  step_ranged : is_in_range (step_content L time inputs) ≡ true
  step_ranged = number_ranged (next_of L time inputs) (own_short (least (filter_map (λ (t : EntityTurn). t.next) (turns L time inputs))) (least_from None (filter_map (λ (t : EntityTurn). t.next) (turns L time inputs)) tt (nexts_short 0 L.entities)))

-- ---- the reply to a GetData

put_ranged : (k : List ℕ) (v : tree.Json) (ms : List Member) → is_in_range v ≡ true → Each InRange ms → Each InRange (insert_entry text_order ms k v)
put_ranged k v [] r all = (r, tt)
put_ranged k v (m ∷ ms) r all = elim (slice_cmp nat_cmp k m.0) as (λ o. Each InRange (match_ordering o ((k, v) ∷ m ∷ ms) ((m.0, v) ∷ ms) (m ∷ insert_entry text_order ms k v))) [
  | Less ↦ (r, all)
  | Equal ↦ (r, all.1)
  | Greater ↦ (all.0, put_ranged k v ms r all.1)
]

abbrev InRangeIfThere : Option Member → Type 0
InRangeIfThere None = Unit {0}
InRangeIfThere (Some m) = InRange m

placed_ranged : (ms : List Member) (m : Option Member) → InRangeIfThere m → Each InRange ms → Each InRange (placed ms m)
placed_ranged ms None r all = all
placed_ranged ms (Some m) r all = put_ranged m.0 m.1 ms r all

got_fits : (es : List Entity) (k : ℕ) (e : Entity) → Each IsFitEntity es → slice_get es k ≡ Some e → IsFitEntity e
got_fits [] k e all is = cc
got_fits (x ∷ es) zero e all is = subst IsFitEntity (let same : x ≡ e = cc in same) all.0
got_fits (x ∷ es) (suc k) e all is = got_fits es k e all.1 is

out_short : (o : Option Entity) → ((e : Entity) → o ≡ Some e → IsFitEntity e) → IsShortIfThere (option_and_then (λ (e : Entity). e.out) o)
out_short None h = tt
out_short (Some e) h = (h e refl).out

module _ (T : Turn) (es : List Entity) (fit : Each IsFitEntity es) where
  named_fits : (p : Option ℕ) (e : Entity) → option_and_then (slice_get es) p ≡ Some e → IsFitEntity e
  named_fits None e is = cc
  named_fits (Some k) e is = got_fits es k e fit is

  output_short : (w : Want) → IsShortIfThere (output T es w)
  output_short w = elim (same_text w.attr (output_of T)) as (λ b. IsShortIfThere (cond b (option_and_then (λ (e : Entity). e.out) (entity_named w.eid es)) None)) [
    | true ↦ out_short (entity_named w.eid es) (named_fits (place_named (length es) w.eid))
    | false ↦ tt
  ]

  part_ranged : (w : Want) (o : Option ℤ) → IsShortIfThere o → InRangeIfThere (option_map (λ n. let p : List ℕ × tree.Json = (w.eid, tree.Object ((w.attr, tree.Whole n) ∷ [])) in p) o)
  unfolding trees_compute
  part_ranged w None h = tt
  part_ranged w (Some n) h = ap (λ b. b && true) (short_in_range n h)

  outputs_ranged : (ms : List Member) (wants : List Want) → Each InRange ms → Each InRange (fold (λ (done : List Member) (w : Want). placed done (part T es w)) ms wants)
  outputs_ranged ms [] all = all
  outputs_ranged ms (w ∷ wants) all = outputs_ranged (placed ms (part T es w)) wants (placed_ranged ms (part T es w) (part_ranged w (output T es w) (output_short w)) all)

  at_short : (latest at : Option ℤ) → IsShortIfThere latest → IsShortIfThere at → IsShortIfThere (later_at latest at)
  at_short latest None h k = h
  at_short None (Some a) h k = k
  at_short (Some t) (Some a) h k = elim (int_lt a t) as (λ b. FitsIn64 (cond b t a)) [ true ↦ h | false ↦ k ]

  time_from : (latest : Option ℤ) (all : List Entity) → IsShortIfThere latest → Each IsFitEntity all → IsShortIfThere (fold later_made latest all)
  time_from latest [] h f = h
  time_from latest (e ∷ all) h f = time_from (later_made latest e) all
      (elim (is_some e.out) as (λ b. IsShortIfThere (cond b (later_at latest e.at) latest)) [ true ↦ at_short latest e.at h f.0.at | false ↦ h ]) f.1

  time_ranged : (o : Option ℤ) → IsShortIfThere o → InRangeIfThere (option_map (λ n. let p : List ℕ × tree.Json = (codes "time", tree.Whole n) in p) o)
  time_ranged None h = tt
  time_ranged (Some n) h = whole_ranged n h

  all_ranged : (ms : List Member) → Each InRange ms → list_all (λ (m : Member). is_in_range m.1) ms ≡ true
  all_ranged [] all = refl
  all_ranged (m ∷ ms) all = ap (λ b. b && list_all (λ (n : Member). is_in_range n.1) ms) all.0 ∙ all_ranged ms all.1

  data_ranged : (wanted : List Want) → is_in_range (data_content T es wanted) ≡ true
  data_ranged wanted = let ms : List Member = placed (outputs T es wanted) (time_part es) in
      range-Object ms ∙ all_ranged ms (placed_ranged (outputs T es wanted) (time_part es) (time_ranged (output_time es) (time_from None es tt fit)) (outputs_ranged [] wanted tt))

-- each reply to an item is one
pub reply_fit : (L : Simulator) (id : ℕ) (item : Item) (m : Message) → IsFit L → item_reply L id item ≡ Some m → IsFitSuccess m
reply_fit L id (Step at inputs advance) m fit is = record { id = id; content = step_content L at.time inputs; is = let same : m ≡ Success id (step_content L at.time inputs) = cc in same; range = step_ranged L at.time inputs }
reply_fit L id (GetData wanted) m fit is = record { id = id; content = data_content L.kind L.entities wanted; is = let same : m ≡ Success id (data_content L.kind L.entities wanted) = cc in same; range = data_ranged L.kind L.entities fit wanted }
reply_fit L id (Answer asked content) m fit is = cc
reply_fit L id (Refuse asked reason) m fit is = cc
