-- Simulators within the program: what each of them says is a function of the items that it was
-- sent.
use Rattle.std.specs.Prelude.{◌≡◌, ℕ, ◌+◌, ◌<◌, pos, Bool, true, false, List, [], ◌∷◌, ◌++◌, map, None}
use Rattle.mk_base.specs.declared.SimNo.{SimNo}
use Rattle.mk_base.specs.declared.json.Json.{Json}
use Rattle.mk_base.specs.declared.tier.Tier.{Tier}
use Rattle.mk_base.specs.Lists.{IsIn}
use Rattle.mk_plan.specs.declared.Plan.{Plan}
use Rattle.mk_plan.specs.declared.Input.{Input}
use Rattle.mk_plan.specs.declared.Item.{Item}
use Rattle.mk_plan.specs.declared.Item.TheVariants.{Step, GetData}
use Rattle.mk_plan.specs.declared.Message.{Message}
use Rattle.mk_plan.specs.declared.Message.TheVariants.{Success}
use Rattle.mk_plan.specs.declared.Entry.{Entry}
use Rattle.mk_plan.specs.declared.Entry.TheVariants.{Got}
use Rattle.mk_plan.specs.declared.Place.TheVariants.{Stepping, Fetching}
use Rattle.mk_plan.specs.Plans.{sim_count, first_id}
use Rattle.mk_plan.specs.Turns.{is_wrong, wanted}
use Rattle.mk_plan.specs.Acts.{Said, Heard}
use Rattle.mk_plan.specs.Sequential.{Messages, Visit, visits, sequential, run_talk, items, all_ended, id_after}
use Rattle.mk_plan.specs.Journals.{view, sent, bare}

-- the reply of simulator i to the last of the items that it was sent, without their max_advance
abbrev pub Replies : Type 0
Replies = ℕ → List Item → Message

-- in sequential execution over R no turn of a simulator within the program is cut, and each of its
-- messages is its kind's reply to the items before it
pub record AnswersByKind (reply : Replies) (within : ℕ
    → Bool) (P : Plan) (R : Messages) : Type 0 where
  pub uncut : (i : ℕ) → i < sim_count P → within i ≡ true → all_ended (sequential P R i) ≡ true
  pub replies : (i : ℕ) → i < sim_count P → within i ≡ true
      → (before later : List Said) (m : Message) → run_talk P R i ≡ before ++ Heard m ∷ later
      → m ≡ reply i (items before)

-- the message is its kind's reply to the items that were sent before, and a request is open that it
-- answers
pub record IsKindReply (reply : Replies) (P : Plan) (H : List Entry) (i : ℕ)
    (m : Message) : Type 0 where
  pub is : m ≡ reply i (map bare (sent H i))
  pub open_there : (view P H).open_at i ≡ None → ⊥

-- each message in the journal of a simulator within the program is its kind's
abbrev pub KeepsToKinds : Replies → (ℕ → Bool) → Plan → List Entry → Type 0
KeepsToKinds reply within P J = (H : List Entry) (s : SimNo) (m : Message) (more : List Entry)
    → J ≡ H ++ Got s m ∷ more → within s.0 ≡ true → IsKindReply reply P H s.0 m

-- at each visit, whatever was sent before: the reply to a Step is a right success with its id, and
-- so is the reply to the GetData behind it
pub record RepliesAreRight (reply : Replies) (within : ℕ → Bool) (P : Plan) : Type 0 where
  pub to_step : (i : ℕ) → within i ≡ true → (before : List Item) (x : Tier) (inputs : List Input)
      → IsIn {X = Visit} (x, i) (visits P)
      → (content : Json) × (reply i (before ++ Step x inputs (pos 0) ∷ [])
      ≡ Success (id_after (first_id P i) before) content)
      × (is_wrong P i (Stepping x (id_after (first_id P i) before) 0)
      (Success (id_after (first_id P i) before) content) ≡ false)
  pub to_get_data : (i : ℕ) → within i ≡ true
      → (before : List Item) (x : Tier) (inputs : List Input) → IsIn {X = Visit} (x, i) (visits P)
      → (content : Json) ×
      (reply i ((before ++ Step x inputs (pos 0) ∷ []) ++ GetData (wanted P i) ∷ [])
      ≡ Success (id_after (first_id P i) before + 1) content)
      × (is_wrong P i (Fetching x (id_after (first_id P i) before + 1))
      (Success (id_after (first_id P i) before + 1) content) ≡ false)

-- whatever the other simulators send, there are messages that answer by kind
abbrev pub AreThere : Replies → (ℕ → Bool) → Plan → Type 0
AreThere reply within P = (Q : Messages) → (R : Messages) × AnswersByKind reply within P R
    × ((i : ℕ) → within i ≡ false → R i ≡ Q i)
