-- What a simulator within the program sends last is its reply to the last item.
use Rattle.std.proofs.Common.{◌≡◌, ℕ, ◌+◌, ◌<◌, ℤ, ◌≤ℤ◌, pos, negsuc, true, false, List, [], ◌∷◌, ◌++◌, map, fold, option_to_list, is_some, slice_get, Option, Some, None, option_map, option_and_then, unwrap_or, nat_abs, refl, sym, ap, ◌∙◌, subst, arith, append_assoc}
use Rattle.std.proofs.lemmas.Int.{ints}
use Rattle.mk_base.specs.declared.json.Json.{Json}
use Rattle.mk_base.specs.declared.tier.Tier.{Tier}
use Rattle.mk_base.specs.Lists.{IsIn, last_of}
use Rattle.mk_base.proofs.Lists.{map_append}
use Rattle.mk_plan.specs.declared.Plan.{Plan}
use Rattle.mk_plan.specs.declared.Input.{Input}
use Rattle.mk_plan.specs.declared.Item.{Item}
use Rattle.mk_plan.specs.declared.Item.TheVariants.{Step, GetData, Answer, Refuse}
use Rattle.mk_plan.specs.declared.Message.{Message}
use Rattle.mk_plan.specs.declared.Message.TheVariants.{Success}
use Rattle.mk_plan.specs.declared.Place.{Place}
use Rattle.mk_plan.specs.declared.Place.TheVariants.{Stepping, Fetching}
use Rattle.mk_plan.specs.Plans.{first_id}
use Rattle.mk_plan.specs.Turns.{is_wrong, wanted, wrong}
use Rattle.mk_plan.specs.Sequential.{Visit, visits, id_after}
use Rattle.mk_plan.specs.Journals.{bare}
use Rattle.mk_order.proofs.VisitOrder.{visits_are}
use Rattle.mk_scenario.specs.declared.parts.Scenario.{Scenario}
use Rattle.mk_scenario.specs.declared.parts.SimPart.{SimPart}
use Rattle.mk_scenario.specs.declared.parts.Begin.{Begin}
use Rattle.mk_scenario.specs.declared.parts.Begin.TheVariants.{Command, Connect, Local}
use Rattle.mk_run_laws.specs.Handshake.{calls_to, is_within, setup_count}
use Rattle.mk_run_laws.specs.Kinds.{RepliesAreRight}
use Rattle.mk_local.specs.declared.turn.Turn.{Turn}
use Rattle.mk_local.specs.Kinds.{kind_named}
use Rattle.mk_local.specs.Calls.{after_call}
use Rattle.mk_local.specs.Replies.{after_item, after_items, item_reply, replies}
use Rattle.mk_local.specs.Right.{EndsRight, Fits}
use Rattle.mk_local.specs.Rows.{IsStepTime}
use Rattle.mk_local.specs.Simulators.{Simulator, new_simulator}
use Rattle.mk_local.proofs.InOrder.{right_in_order, one_id, next_id, last_reply}
use Rattle.mk_run_local.specs.Seen.{begun_as, first_of}
use Rattle.mk_run_local.specs.Made.{made, kind_reply_of, no_reply}
use Rattle.mk_run_local.specs.Laws.{FitsKinds, HasCome, KindsAreRight, RepliesAreKinds}
use Rattle.mk_run_local.proofs.Numbers.{IsStepping, new_steps, calls_step}
use Rattle.mk_base.specs.Limits.{latest_end}
use Rattle.mk_run_laws.proofs.Numbering.{bare_takes}

-- ---- ids

ids_bare : (id : ℕ) (items : List Item) → id_after id (map bare items) ≡ id_after id items
ids_bare id items = ap (λ n. id + n) (bare_takes items)

-- ---- the last reply

reply_bare : (L : Simulator) (id : ℕ) (item : Item) → item_reply L id (bare item) ≡ item_reply L id item
reply_bare L id (Step at inputs advance) = refl
reply_bare L id (GetData wanted) = refl
reply_bare L id (Answer asked content) = refl
reply_bare L id (Refuse asked reason) = refl

after_bare : (L : Simulator) (item : Item) → after_item L (bare item) ≡ after_item L item
after_bare L (Step at inputs advance) = refl
after_bare L (GetData wanted) = refl
after_bare L (Answer asked content) = refl
after_bare L (Refuse asked reason) = refl

-- the messages for some items and one more end with the reply to that one
ends_with : (L : Simulator) (id : ℕ) (before : List Item) (item : Item) (m : Message) → item_reply (after_items L before) (id_after id before) item ≡ Some m → (ms : List Message) × (replies L id (before ++ item ∷ []) ≡ ms ++ m ∷ [])
ends_with L id [] item m is = ([], ap (λ (o : Option Message). option_to_list o ++ []) (ap (λ n. item_reply L n item) (let e : id ≡ id + 0 = omega arith in e) ∙ is))
ends_with L id (first ∷ before) item m is =
    let t = ends_with (after_item L first) (next_id L id first) before item m (ap (λ n. item_reply (after_items (after_item L first) before) n item) (one_id L id first before) ∙ is) in
    (option_to_list (item_reply L id first) ++ t.0, ap (λ (ms : List Message). option_to_list (item_reply L id first) ++ ms) t.1 ∙ sym (append_assoc (option_to_list (item_reply L id first)) t.0 (m ∷ [])))

items_behind : (L : Simulator) (items : List Item) (item : Item) → after_items L (items ++ item ∷ []) ≡ after_item (after_items L items) item
items_behind L [] item = refl
items_behind L (first ∷ items) item = items_behind (after_item L first) items item

bare_behind : (items : List Item) (item : Item) → map bare (items ++ item ∷ []) ≡ map bare items ++ bare item ∷ []
bare_behind items item = map_append bare items (item ∷ [])

module _ (rows : List Turn) (S : Scenario) (i : ℕ) where
  -- the kind's reply is the last message of the simulator that was made
  reply_made : (first : Simulator) (items : List Item) (m : Message) → made rows S i ≡ Some first → last_of (replies first (setup_count S i) items) ≡ Some m → kind_reply_of rows S i items ≡ m
  reply_made first items m there last = ap (λ (o : Option Simulator). unwrap_or (option_and_then (λ L. last_of (replies L (setup_count S i) items)) o) no_reply) there ∙ ap (λ (o : Option Message). unwrap_or o no_reply) last

  come_on : (items : List Item) (L : Simulator) (item : Item) (m : Message) → HasCome rows S i items L → item_reply L (id_after (setup_count S i) items) item ≡ Some m
      → (m ≡ kind_reply_of rows S i (map bare (items ++ item ∷ []))) × HasCome rows S i (items ++ item ∷ []) (after_item L item)
  come_on items L item m come is = (
    sym (ap (kind_reply_of rows S i) (bare_behind items item) ∙ reply_made come.first (map bare items ++ bare item ∷ []) m come.begun (last_reply come.first (setup_count S i) (map bare items) (bare item) m here)),
    record {
      first = come.first;
      begun = come.begun;
      sent = ap (λ (N : Simulator). after_item N item) come.sent ∙ sym (after_bare (after_items come.first (map bare items)) item)
          ∙ sym (items_behind come.first (map bare items) (bare item)) ∙ ap (after_items come.first) (sym (bare_behind items item));
    },
  )
    where
      here : item_reply (after_items come.first (map bare items)) (id_after (setup_count S i) (map bare items)) (bare item) ≡ Some m
      here = ap (λ (N : Simulator). item_reply N (id_after (setup_count S i) (map bare items)) (bare item)) (sym come.sent)
          ∙ ap (λ n. item_reply L n (bare item)) (ids_bare (setup_count S i) items) ∙ reply_bare L (id_after (setup_count S i) items) item ∙ is

pub replies_kinds : RepliesAreKinds
replies_kinds rows S i items L come item m is = come_on rows S i items L item m come is

-- ---- a simulator that was made has a step of its kind

begun_steps : (rows : List Turn) (b : Begin) (first : Simulator) → begun_as rows b ≡ Some first → IsStepping first
begun_steps rows (Command template) first is = cc
begun_steps rows (Connect port) first is = cc
begun_steps rows (Local kind) first is = by (kind_named kind rows) is
  where
    by : (o : Option Turn) → option_map new_simulator o ≡ Some first → IsStepping first
    by None e = cc
    by (Some T) e = subst IsStepping (let same : new_simulator T ≡ first = cc in same) (new_steps T)

made_steps : (rows : List Turn) (S : Scenario) (i : ℕ) (L : Simulator) → made rows S i ≡ Some L → IsStepping L
made_steps rows S i L is = by (slice_get S.sims i) is
  where
    after : (o : Option Simulator) → ((first : Simulator) → o ≡ Some first → IsStepping first) → option_map (λ N. fold after_call N (calls_to S i)) o ≡ Some L → IsStepping L
    after None steps e = cc
    after (Some first) steps e = subst IsStepping (let same : fold after_call first (calls_to S i) ≡ L = cc in same) (calls_step first (calls_to S i) (steps first refl))

    by : (o : Option SimPart) → option_map (λ N. fold after_call N (calls_to S i)) (option_and_then (first_of rows) o) ≡ Some L → IsStepping L
    by None e = cc
    by (Some s) e = after (first_of rows s) (begun_steps rows s.begin) e

-- ---- no reply is wrong

right_is : (P : Plan) (i : ℕ) (place : Place) (m : Message) → wrong P i place m ≡ None → is_wrong P i place m ≡ false
right_is P i place m is = ap is_some is

module _ (rows : List Turn) (S : Scenario) (P : Plan) (fits : FitsKinds rows S P) where
  visit_time : (x : Tier) (i : ℕ) → IsIn {X = Visit} (x, i) (visits P) → IsStepTime x.time
  visit_time x i visit =
      let t = visits_are P (x, i) visit in
      let end = fits.end in
      let short : t.0 < 1000000000 = below P.until t.0 t.3 end in
      subst (λ (y : Tier). IsStepTime y.time) (sym t.2) (omega (arith, ints), omega (arith, ints, short))
    where
      below : (end : ℤ) (n : ℕ) → n < nat_abs end → IsStepTime end → n < 1000000000
      below (pos m) n h k = let h' : n < m = h in let k' : pos m ≤ℤ latest_end = k.1 in omega (arith, ints, h', k')
      below (negsuc m) n h k = absurd (let k' : pos 0 ≤ℤ negsuc m = k.0 in omega (arith, ints, k'))

  module _ (i : ℕ) (within : is_within S i ≡ true) where
    L : Simulator
    L = (fits.there i within).0

    made_is : made rows S i ≡ Some L
    unfolding L
    made_is = (fits.there i within).1

    fit : Fits P i L
    unfolding L
    fit = record { kind = (fits.there i within).2; wants = fits.wants i within; step = made_steps rows S i (fits.there i within).0 (fits.there i within).1 }

    abbrev n : ℕ
    n = setup_count S i

    ids : (before : List Item) → id_after n before ≡ id_after (first_id P i) before
    ids before = ap (λ k. id_after k before) (sym (fits.first i within))

    -- what the simulator sends last is a success with this id, and right there
    reply_right : (items : List Item) (id : ℕ) (place : Place) → EndsRight P i L n items id place → (content : Json) × (kind_reply_of rows S i items ≡ Success id content) × (is_wrong P i place (Success id content) ≡ false)
    reply_right items id place ends = (ends.content, reply_made rows S i L items (Success id ends.content) made_is ends.sent, right_is P i place (Success id ends.content) ends.right)

    module _ (before : List Item) (x : Tier) (inputs : List Input) (visit : IsIn {X = Visit} (x, i) (visits P)) where
      both : EndsRight P i L n (before ++ Step x inputs (pos 0) ∷ []) (id_after n before) (Stepping x (id_after n before) 0)
          × EndsRight P i L n ((before ++ Step x inputs (pos 0) ∷ []) ++ GetData (wanted P i) ∷ []) (id_after n before + 1) (Fetching x (id_after n before + 1))
      both = right_in_order P i L fit n before x (visit_time x i visit) inputs (pos 0) (wanted P i)

      to_step : (content : Json) × (kind_reply_of rows S i (before ++ Step x inputs (pos 0) ∷ []) ≡ Success (id_after (first_id P i) before) content)
          × (is_wrong P i (Stepping x (id_after (first_id P i) before) 0) (Success (id_after (first_id P i) before) content) ≡ false)
      to_step = subst (λ k. (content : Json) × (kind_reply_of rows S i (before ++ Step x inputs (pos 0) ∷ []) ≡ Success k content) × (is_wrong P i (Stepping x k 0) (Success k content) ≡ false)) (ids before)
          (reply_right (before ++ Step x inputs (pos 0) ∷ []) (id_after n before) (Stepping x (id_after n before) 0) both.0)

      to_get_data : (content : Json) × (kind_reply_of rows S i ((before ++ Step x inputs (pos 0) ∷ []) ++ GetData (wanted P i) ∷ []) ≡ Success (id_after (first_id P i) before + 1) content)
          × (is_wrong P i (Fetching x (id_after (first_id P i) before + 1)) (Success (id_after (first_id P i) before + 1) content) ≡ false)
      to_get_data = subst (λ k. (content : Json) × (kind_reply_of rows S i ((before ++ Step x inputs (pos 0) ∷ []) ++ GetData (wanted P i) ∷ []) ≡ Success (k + 1) content) × (is_wrong P i (Fetching x (k + 1)) (Success (k + 1) content) ≡ false)) (ids before)
          (reply_right ((before ++ Step x inputs (pos 0) ∷ []) ++ GetData (wanted P i) ∷ []) (id_after n before + 1) (Fetching x (id_after n before + 1)) both.1)

  all_right : RepliesAreRight (kind_reply_of rows S) (is_within S) P
  all_right = record {
    to_step = λ i within before x inputs visit. to_step i within before x inputs visit;
    to_get_data = λ i within before x inputs visit. to_get_data i within before x inputs visit;
  }

pub kinds_right : KindsAreRight
kinds_right rows S P fits = all_right rows S P fits
