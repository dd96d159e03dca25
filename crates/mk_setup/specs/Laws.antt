-- What the calls of a setup make of the replies, from its beginning on.
use Rattle.std.specs.Prelude.{◌≡◌, ℕ, ◌<◌, List, [], ◌∷◌, ◌++◌, length, Some, None, Ok, Err, slice_get, true, false}
use Rattle.mk_base.specs.declared.SimNo.{SimNo}
use Rattle.mk_base.specs.declared.json.Json.{Json}
use Rattle.mk_plan.specs.declared.Plan.{Plan}
use Rattle.mk_plan.specs.declared.Call.{Call}
use Rattle.mk_plan.specs.declared.Message.{Message}
use Rattle.mk_plan.specs.declared.Message.TheVariants.{Success}
use Rattle.mk_plan.specs.Journals.{Arrival}
use Rattle.mk_plan.specs.Plans.{kind_of}
use Rattle.mk_meta.specs.declared.meta.Meta.{Meta}
use Rattle.mk_meta.specs.Metadata.{meta_in}
use Rattle.mk_scenario.specs.declared.parts.Scenario.{Scenario}
use Rattle.mk_run_laws.specs.Handshake.{Request, setup_requests}
use Rattle.mk_setup.specs.declared.fault.SetupFault.{SetupFault}
use Rattle.mk_setup.specs.Answers.{IsReady, IsRequested, IsBarred}
use Rattle.mk_setup.specs.Handshakes.{IsFaultyAfter, IsMade, IsReached, begun}
use Rattle.mk_setup.specs.Replies.{after_reply}
use Rattle.mk_setup.specs.Requests.{id_before, request_of}
use Rattle.mk_setup.specs.Seen.{SetupState}

-- a state that these replies lead to has this scenario and these ranks, has met no fault, and counts
-- the replies
pub record IsOfReplies (S : Scenario) (ranks : List ℕ) (answers : List Message)
    (U : SetupState) : Type 0 where
  pub scenario : U.scenario ≡ S
  pub ranked : U.ranks ≡ ranks
  pub going : U.fault ≡ None
  pub count : U.answered ≡ length answers

-- the message is a success reply to request number k, from 0, with its id
pub record IsReplyTo (S : Scenario) (k : ℕ) (message : Message) : Type 0 where
  pub request : Request
  pub content : Json
  pub asked : slice_get (setup_requests S) k ≡ Some request
  pub is : message ≡ Success (id_before S k request.sim) content

-- the simulator's kind in the plan is the one that its reply to `init` says
pub record IsKindSaid (answers : List Message) (P : Plan) (sim : ℕ) : Type 0 where
  pub id : ℕ
  pub content : Json
  pub meta : Meta
  pub answer : slice_get answers sim ≡ Some (Success id content)
  pub read : meta_in content ≡ Ok meta
  pub kind : kind_of P sim ≡ meta.kind

-- from the beginning on: a request that is made, and a message that is taken, lead to what the
-- replies make; a message that is taken comes of the simulator of the request that was made; the plan
-- at the end, and each fault, are the replies'; each of them is a success reply to its request; and
-- the plan has the kinds that they say
pub record RepliesMake : Type 0 where
  pub begins : (S : Scenario) (ranks : List ℕ) → IsReached S ranks [] (begun S ranks)
  pub asks : (S : Scenario) (ranks : List ℕ) (answers : List Message) (U V : SetupState)
      (sim : SimNo) (call : Call) (id : ℕ) → IsReached S ranks answers U
      → IsRequested U sim call id V → IsReached S ranks answers V
  pub takes : (S : Scenario) (ranks : List ℕ) (answers : List Message) (U V : SetupState)
      (a : Arrival) → IsReached S ranks answers U → after_reply U a ≡ Ok V
      → IsReached S ranks (answers ++ a.message ∷ []) V
  pub comes : (U V : SetupState) (a : Arrival) → after_reply U a ≡ Ok V → (call : Call)
      × (request_of U ≡ Some (record { sim = a.sim; call = call })) × (U.asked ≡ true)
  pub rests : (U V : SetupState) (a : Arrival) → after_reply U a ≡ Ok V → V.asked ≡ false
  pub makes : (S : Scenario) (ranks : List ℕ) (answers : List Message) (U V : SetupState) (P : Plan)
      → IsReached S ranks answers U → IsReady U P V → IsMade S ranks answers P
  pub stops : (S : Scenario) (ranks : List ℕ) (answers : List Message) (U V : SetupState)
      (e : SetupFault) → IsReached S ranks answers U → IsBarred U e V
      → IsFaultyAfter S ranks answers None e
  pub refuses : (S : Scenario) (ranks : List ℕ) (answers : List Message) (U : SetupState)
      (a : Arrival) (e : SetupFault) → IsReached S ranks answers U → U.asked ≡ true
      → after_reply U a ≡ Err e → IsFaultyAfter S ranks answers (Some a) e
  pub stands : (S : Scenario) (ranks : List ℕ) (answers : List Message) (U : SetupState)
      → IsReached S ranks answers U → IsOfReplies S ranks answers U
  pub replies : (S : Scenario) (ranks : List ℕ) (answers : List Message) (U : SetupState)
      → IsReached S ranks answers U → (k : ℕ) (message : Message)
      → slice_get answers k ≡ Some message → IsReplyTo S k message
  pub kinds : (S : Scenario) (ranks : List ℕ) (answers : List Message) (P : Plan)
      → IsMade S ranks answers P → (i : ℕ) → i < length S.sims → IsKindSaid answers P i
