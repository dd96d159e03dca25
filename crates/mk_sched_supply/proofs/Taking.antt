-- What the outputs of a turn that ends make of a stock.
use Rattle.std.proofs.Common.{◌≡◌, ℕ, ◌+◌, ◌-◌, ◌^◌, ◌<◌, ◌≤◌, min, pos, Bool, true, false, List, ◌++◌, length, map, take, slice_get, nat_le, Option, Some, None, option_map, unwrap_or, refl, sym, ap, ◌∙◌, subst, arith, true≢false, Bor}
use Rattle.std.specs.Prelude.{IfSome}
use Rattle.mk_base.specs.declared.SimNo.{SimNo}
use Rattle.mk_base.specs.declared.json.Json.{Json}
use Rattle.mk_base.specs.declared.tier.Tier.{Tier}
use Rattle.mk_base.specs.Data.{IsValueText}
use Rattle.mk_base.specs.Texts.{text_of}
use Rattle.mk_base.specs.Tiers.{moment}
use Rattle.mk_base.specs.Trees.{is_datum, is_in_range, is_whole, nesting, value_depth}
use Rattle.mk_base.proofs.Lists.{at_in, get_is, map_in}
use Rattle.mk_base.proofs.AtPlaces.{map_at}
use Rattle.mk_plan.specs.declared.Plan.{Plan}
use Rattle.mk_plan.specs.declared.Entry.{Entry}
use Rattle.mk_plan.specs.declared.Entry.TheVariants.{Sent, Got}
use Rattle.mk_plan.specs.declared.Message.{Message}
use Rattle.mk_plan.specs.declared.Want.{Want}
use Rattle.mk_plan.specs.Plans.{owner, eid_of, sim_count}
use Rattle.mk_plan.specs.Turns.{wanted, value_for}
use Rattle.mk_plan.specs.Acts.{made, outputs_in}
use Rattle.mk_plan.specs.Asks.{gives_attr}
use Rattle.mk_plan.specs.Deliveries.{Timed, Supply, supply}
use Rattle.mk_plan.specs.Sequential.{grown}
use Rattle.mk_plan.specs.Journals.{OpenTurn, Owed, View, view, ended_turn, note_right}
use Rattle.mk_plan.specs.Ready.{IsReady}
use Rattle.mk_plan.specs.Advance.{IsAdvance}
use Rattle.mk_plan.specs.Orderly.{IsNext}
use Rattle.mk_order.specs.Pending.{IsMarkOf}
use Rattle.mk_order.proofs.Opened.{outputs_opened}
use Rattle.mk_plan_names.specs.Names.{AreNamesOf}
use Rattle.mk_sched_open.specs.Turns.{IsRight}
use Rattle.mk_buffers.specs.declared.buffers.Buffers.{Buffers}
use Rattle.mk_buffers.specs.Held.{with_output}
use Rattle.mk_buffers.specs.Marking.{Marked}
use Rattle.mk_buffers.specs.Standing.{HasKey, IsOutletFor, StandFor, mark_of}
use Rattle.mk_sched_supply.specs.declared.outputs.Outputs.{Outputs}
use Rattle.mk_sched_supply.specs.declared.stock.Stock.{Stock}
use Rattle.mk_sched_supply.specs.Outputs.{AreData, AreOutputsIn, found_values}
use Rattle.mk_sched_supply.specs.Stock.{IsStockFor, IsStockOf, MayComeNext}
use Rattle.mk_sched_supply.specs.inner.Making.{HasGiven, HasSameRest}
use Rattle.mk_sched_supply.proofs.Bringing.{brought, brought_all}
use Rattle.mk_sched_supply.proofs.Gaining.{HasGained, gained_more}
use Rattle.mk_sched_supply.proofs.Keeping.{mark_right}
use Rattle.mk_sched_supply.proofs.Lasting.{last_quiet}
use Rattle.mk_sched_supply.proofs.Supplying.{ended_supplies}
use Rattle.std.proofs.lemmas.Bool.Decides.{nat_tests}
use Rattle.mk_base.proofs.Items.{length_map, take_all}
use Rattle.mk_base.proofs.Bools.{both_hold}
use Rattle.mk_sched_supply.proofs.Feeding.{get_map}

-- ---- one value

value_text : (v : Json) → is_datum v ≡ true → is_in_range v ≡ true → IsValueText (text_of v)
value_text v datum range = let t = both_hold (is_whole v) (nat_le (nesting v) value_depth) datum in record { tree = v; whole = t.0; in_range = range; deep = deep_is t.1; is = refl }
  where
    deep_is : nat_le (nesting v) value_depth ≡ true → nesting v ≤ value_depth
    deep_is h = grind (arith, nat_tests)

-- an outlet's place is a number of the machine
outlet_fits : (b : Buffers) (P : Plan) (s : ℕ) (w : Want) (n o : ℕ) → IsOutletFor P b s w n → o ≡ min n (2 ^ 64 - 1) → n ≡ o
outlet_fits b P s w n o for is =
    let low : n < length b.outlets.items = (get_is b.outlets.items n for.outlet for.at_place).0 in
    let count = b.outlets.ok in
    let small = b.outlets.small in
    let fits : n ≤ 2 ^ 64 - 1 = omega (arith, low, count.0, count.1, small) in
    grind arith

pub taken_some : (P : Plan) (b n : Buffers) (S : Supply) (s : ℕ) (x : Tier) (w : Want) (first place o : ℕ) (v : Json) (text : List ℕ) → IsOutletFor P b s w (first + place) → o ≡ min (first + place) (2 ^ 64 - 1) → text ≡ text_of v → (is_datum v ≡ true) × (is_in_range v ≡ true)
    → ((place : ℕ) → IsOutletFor P b s w place → (e : ℕ) × (owner P e ≡ s) × (eid_of P e ≡ w.eid) × HasKey b e w.attr place)
    → ((e : ℕ) (attr : List ℕ) → HasKey b e attr o → IsValueText text → StandFor P n (with_output S e attr (record { at = x; value = text })))
    → HasGiven P s x w (Some v) S n
taken_some P b n S s x w first place o v text for is same proper law delivered =
    let k = law o (subst (IsOutletFor P b s w) (outlet_fits b P s w (first + place) o for is) for) in (
      k.0,
      k.1,
      k.2,
      subst (λ (t : List ℕ). StandFor P n (with_output S k.0 w.attr (record { at = x; value = t }))) same (delivered k.0 w.attr k.3 (subst IsValueText (sym same) (value_text v proper.0 proper.1))),
    )

-- ---- value by value

abbrev tree_of : Option (Bor Json) → Option Json
tree_of = option_map (λ v. v.now)

pub data_at : (values : List (Option (Bor Json))) (place : ℕ) (o : Option (Bor Json)) → slice_get values place ≡ Some o → AreData (map (option_map (λ v. v.now)) values) → IfSome o (λ v. (is_datum v.now ≡ true) × (is_in_range v.now ≡ true))
data_at values place None at proper = tt
data_at values place (Some v) at proper = proper v.now (map_in tree_of (Some v) values (at_in (Some v) values place at))

pub rest_itself : (k : Stock) → HasSameRest k k
rest_itself k = record { names = refl; feeds = refl; marks = refl }

pub rest_through : (j k l : Stock) → HasSameRest j k → HasSameRest k l → HasSameRest j l
rest_through j k l f g = record { names = g.names ∙ f.names; feeds = g.feeds ∙ f.feeds; marks = g.marks ∙ f.marks }

pub gained_next : (P : Plan) (S : Supply) (content : Json) (outs : Outputs) (place s : ℕ) (x : Tier) (o : Option (Bor Json)) (old new : Buffers) → slice_get outs.values.items place ≡ Some o → s < sim_count P → found_values outs ≡ map (value_for content) (wanted P s)
    → HasGained P s x content place S old → ((T : Supply) (w : Want) → StandFor P old T → slice_get (wanted P s) place ≡ Some w → HasGiven P s x w (option_map (λ v. v.now) o) T new) → HasGained P s x content (place + 1) S new
gained_next P S content outs place s x o old new at low values h given =
    let t = map_at (value_for content) (wanted P s) place (tree_of o) (sym (ap (λ l. slice_get l place) values) ∙ get_map tree_of outs.values.items place o at) in
    gained_more P s low x content S place t.0 t.1 old new h (tree_of o) (sym t.2) (given h.now t.0 h.stands t.1)

-- ---- all values

abbrev is_got : Entry → Bool
is_got (Sent s item) = false
is_got (Got s m) = true

-- a message that may come is that of a simulator of the plan
pub got_below : (P : Plan) (V : View) (s : SimNo) (m : Message) (o : Option Owed) → IsNext IsReady IsAdvance P V o (Got s m) → s.0 < sim_count P
got_below P V s m None next = next
got_below P V s m (Some o) next = absurd (true≢false (ap is_got next))

same_for : (P : Plan) (old new : Stock) → HasSameRest old new → IsStockFor P old → IsStockFor P new
same_for P old new rest k = record {
  names = subst (AreNamesOf P) (sym rest.names) k.names;
  count = ap (λ f. length f.items) rest.feeds ∙ k.count;
  feeds = λ s f at. k.feeds s f (sym (ap (λ l. slice_get l.items s) rest.feeds) ∙ at);
}

pub stock_taken : (P : Plan) (J : List Entry) (s : SimNo) (m : Message) (T : OpenTurn) (content : Json) (x : Tier) (outs : Outputs) (old new : Stock) (n : ℕ) → MayComeNext P J (Got s m) → IsRight P (view P J) s.0 m T None → outputs_in (ended_turn T m) ≡ Some content
    → x ≡ made (ended_turn T m) → AreOutputsIn P s.0 content outs → (h : IsStockOf P (view P J) old) → HasSameRest old new → n ≡ length outs.values.items → HasGained P s.0 x content n h.supplied.0 new.buffers → IsStockOf P (note_right P (view P J) s.0 m T None) new
stock_taken P J s m T content x outs old new n may right is when out h rest all gained = record {
  plan = same_for P old new rest h.plan;
  supplied = (gained.now, gained.stands, ended_supplies P V s.0 m T right.opened (last_quiet P s.0 T.place m right.right right.goes) gained.now outputs (λ e low. gained.gifts e ∙ h.supplied.2.gifts e low));
  marks = λ i low. subst (IsMarkOf P (note_right P V s.0 m T None) i) (sym (ap (λ (a : Marked). unwrap_or (slice_get a.marks i) (moment (pos 0))) rest.marks)) (mark_right P may.valid J may.orderly s m T may.allowed None right i (mark_of old.buffers i) (h.marks i low));
}
  where
    V : View
    V = view P J

    count : n ≡ length (wanted P s.0)
    count = all ∙ sym (length_map tree_of outs.values.items) ∙ ap length out.values ∙ length_map (value_for content) (wanted P s.0)

    outputs : (e : ℕ) (attr : List ℕ) → gives_attr P e attr ≡ true → gained.now.outputs e attr ≡ (supply P (grown V.acts s.0 (ended_turn T m))).outputs e attr
    outputs e attr gives = gained.outputs e attr gives ∙ ap (λ (l : List Want). h.supplied.0.outputs e attr ++ brought P s.0 x content l e attr) (ap (λ (k : ℕ). take k (wanted P s.0)) count ∙ take_all (wanted P s.0))
        ∙ ap (λ (l : List Timed). l ++ brought P s.0 x content (wanted P s.0) e attr) (h.supplied.2.outputs e attr gives ∙ outputs_opened P V e attr)
        ∙ brought_all P s.0 x content V.acts (ended_turn T m) is when e attr gives
