-- What requests and replies make, one after the other.
use Rattle.std.proofs.Common.{◌≡◌, ℕ, ◌+◌, ◌<◌, true, false, List, [], ◌∷◌, ◌++◌, length, min, Option, Some, None, Result, Ok, Err, slice_get, refl, sym, ap, ◌∙◌, subst, inl, inr, arith, true≢false}
use Rattle.std.specs.Prelude.{option_map, unwrap_or}
use Rattle.std.proofs.lemmas.List.Sums.{fold-append}
use Rattle.mk_base.specs.declared.SimNo.{SimNo}
use Rattle.mk_base.proofs.Lists.{below_get, none_some}
use Rattle.mk_base.specs.Verdicts.{passed}
use Rattle.mk_plan.specs.declared.Plan.{Plan}
use Rattle.mk_plan.specs.declared.Call.{Call}
use Rattle.mk_plan.specs.declared.Message.{Message}
use Rattle.mk_plan.specs.Journals.{Arrival}
use Rattle.mk_scenario.specs.declared.parts.Scenario.{Scenario}
use Rattle.mk_run_laws.specs.Handshake.{Request, setup_requests}
use Rattle.mk_setup.specs.declared.fault.SetupFault.{SetupFault}
use Rattle.mk_setup.specs.Answers.{IsReady, IsRequested, IsBarred}
use Rattle.mk_setup.specs.Asking.{after_asking, asked_unless, fault_before, lasting}
use Rattle.mk_setup.specs.Handshakes.{IsFaultyAfter, IsMade, IsReached, after_answer, answering, asked_after, begun, next_sim, reached}
use Rattle.mk_setup.specs.Laws.{IsKindSaid, IsOfReplies, IsReplyTo, RepliesMake}
use Rattle.mk_setup.specs.Replies.{after_reply}
use Rattle.mk_setup.specs.Requests.{first_ids, request_of}
use Rattle.mk_setup.specs.Seen.{SetupState}
use Rattle.mk_setup.proofs.Planned.{kind_made}
use Rattle.mk_setup.proofs.Reaching.{HasMetas, passed_ok, reached_after}
use Rattle.mk_setup.proofs.Sequence.{request_count}
use Rattle.mk_setup.proofs.Replied.{IsTaken, asking_ok, moved_on, reply_ok}

module _ (S : Scenario) (ranks : List ℕ) (answers : List Message) where
  -- between two requests none is outstanding
  rests : (U : SetupState) → reached S ranks answers ≡ Ok U → U.asked ≡ true → ⊥
  rests U e asked = true≢false (sym asked ∙ (reached_after S ranks answers U e).rests refl)

  -- the state before the request that was made last
  before : (U : SetupState) → asked_after S ranks answers ≡ Ok U → (W : SetupState) × (reached S ranks answers ≡ Ok W) × (U ≡ record W { asked = true })
  before U e = let t = passed_ok (reached S ranks answers) after_asking U e in (t.0, t.1, (asking_ok t.0 U t.2).1)

  no_request : (U : SetupState) → asked_after S ranks answers ≡ Ok U → U.asked ≡ false → ⊥
  no_request U e resting = true≢false (sym (ap (λ (X : SetupState). X.asked) (before U e).2) ∙ resting)

  -- no request is outstanding: the replies led here
  pub resting : (U : SetupState) → IsReached S ranks answers U → U.asked ≡ false → reached S ranks answers ≡ Ok U
  resting U (inl e) at_rest = e
  resting U (inr e) at_rest = absurd (no_request U e at_rest)

  -- a request is outstanding: it led here
  pub waiting : (U : SetupState) → IsReached S ranks answers U → U.asked ≡ true → asked_after S ranks answers ≡ Ok U
  waiting U (inl e) asked = absurd (rests U e asked)
  waiting U (inr e) asked = e

  pub asks : (U V : SetupState) (sim : SimNo) (call : Call) (id : ℕ) → IsReached S ranks answers U → IsRequested U sim call id V → IsReached S ranks answers V
  asks U V sim call id at r =
      let none : fault_before U ≡ None = (λ i. lasting (r.going i) (r.tested i)) in
      inr (ap (λ (v : Result SetupState SetupFault). passed v after_asking) (resting U at r.resting) ∙ ap (asked_unless U) none ∙ ap Ok (sym r.asked))

  from_next : (U V : SetupState) (a : Arrival) → IsTaken U V a → next_sim U ≡ a.sim
  from_next U V a t = ap (λ (o : Option Request). unwrap_or (option_map (λ (r : Request). r.sim) o) 0) t.is ∙ sym t.to

  pub takes : (U V : SetupState) (a : Arrival) → IsReached S ranks answers U → after_reply U a ≡ Ok V → IsReached S ranks (answers ++ a.message ∷ []) V
  takes U V a at e =
      let t = reply_ok U V a e in
      let same : after_answer a.message U ≡ Ok V = ap (λ (n : ℕ). after_reply U (record { sim = n; message = a.message })) (from_next U V a t) ∙ e in
      inl (fold-append answering (Ok (begun S ranks)) answers (a.message ∷ []) ∙ ap (λ (v : Result SetupState SetupFault). passed v (after_answer a.message)) (waiting U at t.asked) ∙ same)

  of_before : (U : SetupState) → reached S ranks answers ≡ Ok U → IsOfReplies S ranks answers U
  of_before U e = let t = reached_after S ranks answers U e in let c = t.count in record { scenario = t.scenario; ranked = t.ranks; going = t.fault; count = omega arith }

  pub stands : (U : SetupState) → IsReached S ranks answers U → IsOfReplies S ranks answers U
  stands U (inl e) = of_before U e
  stands U (inr e) = let b = before U e in let o = of_before b.0 b.1 in subst (λ (X : SetupState). IsOfReplies S ranks answers X) (sym b.2) (record { scenario = o.scenario; ranked = o.ranked; going = o.going; count = o.count })

  pub makes : (U V : SetupState) (P : Plan) → IsReached S ranks answers U → IsReady U P V → IsMade S ranks answers P
  makes U V P at r =
      let o = stands U at in
      record { all = sym o.count ∙ r.all ∙ ap (λ (X : Scenario). length (setup_requests X)) o.scenario; state = U; reached = resting U at r.resting; plan = r.plan }

  pub stops : (U V : SetupState) (e : SetupFault) → IsReached S ranks answers U → IsBarred U e V → IsFaultyAfter S ranks answers None e
  stops U V e at s = record { state = U; reached = resting U at (s.resting (stands U at).going); why = ap (asked_unless U) s.fault }

  pub refuses : (U : SetupState) (a : Arrival) (e : SetupFault) → IsReached S ranks answers U → U.asked ≡ true → after_reply U a ≡ Err e → IsFaultyAfter S ranks answers (Some a) e
  refuses U a e at asked fails = record { state = U; asked = waiting U at asked; why = fails }

  of_reply : (W : SetupState) → reached S ranks answers ≡ Ok W → (k : ℕ) (m : Message) → slice_get answers k ≡ Some m → IsReplyTo S k m
  of_reply W e k m is = let Q : ℕ → Type 0 = λ j. IsReplyTo S j m in subst Q (nothing k) ((reached_after S ranks answers W e).replies k m is)
    where
      nothing : (k : ℕ) → 0 + k ≡ k
      nothing k = omega arith

  pub replies : (U : SetupState) → IsReached S ranks answers U → (k : ℕ) (m : Message) → slice_get answers k ≡ Some m → IsReplyTo S k m
  replies U (inl e) = of_reply U e
  replies U (inr e) = let b = before U e in of_reply b.0 b.1

  pub kinds : (P : Plan) → IsMade S ranks answers P → (i : ℕ) → i < length S.sims → IsKindSaid answers P i
  kinds P made i below =
      let U = made.state in
      let t = reached_after S ranks answers U made.reached in
      let none : HasMetas (begun S ranks) = omega arith in
      let count : U.answered ≡ 0 + length answers = t.count in
      let all : length answers ≡ length S.sims + length S.groups + length S.sims = made.all ∙ request_count S in
      let same : length U.scenario.sims ≡ length S.sims = ap (λ (X : Scenario). length X.sims) t.scenario in
      let has : length U.metas ≡ min U.answered (length U.scenario.sims) = t.counts none in
      let m = below_get U.metas i (omega arith) in
      elim (t.metas none i m.0 m.1) [
        | inl old ↦ absurd (none_some old)
        | inr from ↦ record {
          id = from.id;
          content = from.content;
          meta = m.0;
          answer = let here : i ≡ from.place = from.at ∙ nothing from.place in ap (slice_get answers) here ∙ from.answer;
          read = from.read;
          kind = kind_made U.scenario U.ranks U.metas U.entities (first_ids U.scenario) P made.plan i m.0 (omega arith) m.1;
        }
      ]
    where
      nothing : (k : ℕ) → 0 + k ≡ k
      nothing k = omega arith

pub comes : (U V : SetupState) (a : Arrival) → after_reply U a ≡ Ok V → (call : Call) × (request_of U ≡ Some (record { sim = a.sim; call = call })) × (U.asked ≡ true)
comes U V a e = let t = reply_ok U V a e in (t.request.call, t.is ∙ ap (λ (n : ℕ). Some (record { sim = n; call = t.request.call })) (sym t.to), t.asked)

pub at_rest : (U V : SetupState) (a : Arrival) → after_reply U a ≡ Ok V → V.asked ≡ false
at_rest U V a e = let t = reply_ok U V a e in (moved_on U V (record { 0 = a.sim }) t.request.call t.content t.adds).asked

pub replies_make : RepliesMake
replies_make = record {
  begins = λ S ranks. inl refl;
  asks = asks;
  takes = takes;
  comes = comes;
  rests = at_rest;
  makes = makes;
  stops = stops;
  refuses = refuses;
  stands = stands;
  replies = replies;
  kinds = kinds;
}
