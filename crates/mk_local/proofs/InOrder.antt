-- What a simulator sends, item after item.
use Rattle.std.proofs.Common.{◌≡◌, ℕ, ◌+◌, ℤ, cond, List, [], ◌∷◌, ◌++◌, option_to_list, is_some, Option, Some, refl, sym, ap, ◌∙◌, arith, append_assoc}
use Rattle.mk_base.specs.declared.json.Json.{Json}
use Rattle.mk_base.specs.declared.tier.Tier.{Tier}
use Rattle.mk_base.specs.Lists.{last_of}
use Rattle.mk_plan.specs.declared.Plan.{Plan}
use Rattle.mk_plan.specs.declared.Input.{Input}
use Rattle.mk_plan.specs.declared.Item.{Item}
use Rattle.mk_plan.specs.declared.Item.TheVariants.{Step, GetData, Answer, Refuse}
use Rattle.mk_plan.specs.declared.Message.{Message}
use Rattle.mk_plan.specs.declared.Message.TheVariants.{Success}
use Rattle.mk_plan.specs.Sequential.{id_after}
use Rattle.mk_local.specs.Data.{data_content}
use Rattle.mk_local.specs.Replies.{after_item, after_items, item_reply, replies}
use Rattle.mk_local.specs.Right.{AreBareRepliesSame, AreRightInOrder, Fits}
use Rattle.mk_local.specs.Simulators.{Simulator}
use Rattle.mk_local.specs.Steps.{after_step, step_content}
use Rattle.mk_local.proofs.Replied.{data_replies, step_replies}

abbrev pub next_id : Simulator → ℕ → Item → ℕ
next_id L id item = cond (is_some (item_reply L id item)) (id + 1) id

-- an item takes an id where it gets a reply
pub one_id : (L : Simulator) (id : ℕ) (item : Item) (items : List Item) → id_after (next_id L id item) items ≡ id_after id (item ∷ items)
one_id L id (Step at inputs advance) items = omega arith
one_id L id (GetData wanted) items = omega arith
one_id L id (Answer asked content) items = refl
one_id L id (Refuse asked reason) items = refl

-- the messages for these items, and then for more
replies_append : (L : Simulator) (id : ℕ) (before more : List Item) → replies L id (before ++ more) ≡ replies L id before ++ replies (after_items L before) (id_after id before) more
replies_append L id [] more = ap (λ n. replies L n more) (let e : id ≡ id + 0 = omega arith in e)
replies_append L id (item ∷ before) more =
    ap (λ (ms : List Message). option_to_list (item_reply L id item) ++ ms) (replies_append (after_item L item) (next_id L id item) before more)
    ∙ sym (append_assoc (option_to_list (item_reply L id item)) (replies (after_item L item) (next_id L id item) before) (replies (after_items (after_item L item) before) (id_after (next_id L id item) before) more))
    ∙ ap (λ n. replies L id (item ∷ before) ++ replies (after_items L (item ∷ before)) n more) (one_id L id item before)

pub last_behind : (ms : List Message) (m : Message) → last_of (ms ++ m ∷ []) ≡ Some m
last_behind [] m = refl
last_behind (n ∷ []) m = refl
last_behind (n ∷ k ∷ ms) m = last_behind (k ∷ ms) m

-- the last message is the reply to the last item
pub last_reply : (L : Simulator) (id : ℕ) (before : List Item) (item : Item) (m : Message) → item_reply (after_items L before) (id_after id before) item ≡ Some m → last_of (replies L id (before ++ item ∷ [])) ≡ Some m
last_reply L id before item m is =
    ap (λ (l : List Message). last_of l) (replies_append L id before (item ∷ []) ∙ ap (λ (o : Option Message). replies L id before ++ (option_to_list o ++ [])) is)
    ∙ last_behind (replies L id before) m

-- what a plan asks of a simulator stays, whatever it is sent
fits_on : (P : Plan) (i : ℕ) (L : Simulator) (item : Item) → Fits P i L → Fits P i (after_item L item)
fits_on P i L (Step at inputs advance) fits = record { kind = fits.kind; wants = fits.wants; step = fits.step }
fits_on P i L (GetData wanted) fits = fits
fits_on P i L (Answer asked content) fits = fits
fits_on P i L (Refuse asked reason) fits = fits

fits_after : (P : Plan) (i : ℕ) (L : Simulator) (items : List Item) → Fits P i L → Fits P i (after_items L items)
fits_after P i L [] fits = fits
fits_after P i L (item ∷ items) fits = fits_after P i (after_item L item) items (fits_on P i L item fits)

after_append : (L : Simulator) (before more : List Item) → after_items L (before ++ more) ≡ after_items (after_items L before) more
after_append L [] more = refl
after_append L (item ∷ before) more = after_append (after_item L item) before more

ids_append : (id : ℕ) (before : List Item) (x : Tier) (inputs : List Input) (advance : ℤ) → id_after id (before ++ Step x inputs advance ∷ []) ≡ id_after id before + 1
ids_append id [] x inputs advance = omega arith
ids_append id (Step at ins adv ∷ before) x inputs advance = omega (arith, ids_append id before x inputs advance)
ids_append id (GetData wanted ∷ before) x inputs advance = omega (arith, ids_append id before x inputs advance)
ids_append id (Answer asked content ∷ before) x inputs advance = ids_append id before x inputs advance
ids_append id (Refuse asked reason ∷ before) x inputs advance = ids_append id before x inputs advance

pub right_in_order : AreRightInOrder
right_in_order P i L fits first before x time inputs advance asked =
    let id = id_after first before in
    let then : Simulator = after_items L before in
    let fit : Fits P i then = fits_after P i L before fits in
    let to_step : Json = step_content then x.time inputs in
    let given : Json = data_content then.kind (after_step then x.time inputs).entities asked in
    let all : List Item = before ++ Step x inputs advance ∷ [] in
    let reply : item_reply (after_items L all) (id_after first all) (GetData asked) ≡ Some (Success (id + 1) given) =
    ap (λ (S : Simulator). item_reply S (id_after first all) (GetData asked)) (after_append L before (Step x inputs advance ∷ []))
    ∙ ap (λ n. Some (Success n given)) (ids_append first before x inputs advance) in (
      record {
        content = to_step;
        sent = last_reply L first before (Step x inputs advance) (Success id to_step) refl;
        right = step_replies P i then fit x time inputs advance id 0 (Success id to_step) refl;
      },
      record {
        content = given;
        sent = last_reply L first all (GetData asked) (Success (id + 1) given) reply;
        right = data_replies P i then fit x time inputs advance asked (id + 1) (Success (id + 1) given) refl;
      },
    )

pub bare_same : AreBareRepliesSame
bare_same L first [] = refl
bare_same L first (Step at inputs advance ∷ items) = ap (λ (ms : List Message). Success first (step_content L at.time inputs) ∷ ms) (bare_same (after_step L at.time inputs) (first + 1) items)
bare_same L first (GetData wanted ∷ items) = ap (λ (ms : List Message). Success first (data_content L.kind L.entities wanted) ∷ ms) (bare_same L (first + 1) items)
bare_same L first (Answer asked content ∷ items) = bare_same L first items
bare_same L first (Refuse asked reason ∷ items) = bare_same L first items
