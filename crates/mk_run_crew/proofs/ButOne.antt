-- All requests but one at most have answers that were heard.
use Rattle.std.proofs.Common.{◌≡◌, ℕ, ◌≤◌, zero, suc, List, [], ◌∷◌, ◌++◌, length, take, None, sym, ap, ◌∙◌, subst, arith, append_assoc, length-append}
use Rattle.mk_base.specs.declared.LinkNo.{LinkNo}
use Rattle.mk_base.specs.Lists.{BeginsWith}
use Rattle.mk_base.proofs.Lists.{append_nil, none_some}
use Rattle.mk_outside.specs.declared.fleet.LogEntry.{LogEntry}
use Rattle.mk_outside.specs.Logs.{heard_on}
use Rattle.mk_outside.proofs.OnLogs.{heard-append}
use Rattle.mk_plan.specs.declared.Message.{Message}
use Rattle.mk_plan.specs.declared.Plan.{Plan}
use Rattle.mk_scenario.specs.declared.parts.Scenario.{Scenario}
use Rattle.mk_local.specs.declared.turn.Turn.{Turn}
use Rattle.mk_run_laws.specs.Channels.{Channel, IsChannelAt}
use Rattle.mk_run_laws.specs.Handshake.{Request, setup_requests}
use Rattle.mk_run_laws.specs.Hearing.{messages_heard}
use Rattle.mk_run_laws.proofs.Taking.{taken_heard}
use Rattle.mk_run_crew.specs.Attempts.{Attempt, attempt, longer}
use Rattle.mk_run_crew.specs.Answers.{answers_to, AreHeard, AreKindAnswers}
use Rattle.mk_run_crew.specs.Begun.{HasBegun}
use Rattle.mk_run_crew.specs.Halted.{AreAnsweredButOne}
use Rattle.mk_run_crew.specs.Seen.{CrewSeen}
use Rattle.mk_run_crew.specs.inner.Asking.{IsAnswered}
use Rattle.mk_run_crew.proofs.HeardMore.{heard_later}
use Rattle.mk_run_crew.proofs.Requests.{answers_none}

-- a channel's messages are the first that were heard
pub channel_heard : (log : List LogEntry) (ms : List Message) (payloads : List (List ℕ)) (next : ℕ) (w : Channel) (l : LinkNo) → w.link ≡ l → IsChannelAt log ms payloads next w → BeginsWith (messages_heard (heard_on l log)) ms
channel_heard log ms payloads next w l same at =
    subst (λ (k : LinkNo). BeginsWith (messages_heard (heard_on k log)) ms) same (messages_heard w.held, taken_heard (heard_on w.link log) ms w.held at.heard)

few_taken : {X : Type 0} (n : ℕ) (xs : List X) → length (take n xs) ≤ n
few_taken zero xs = omega arith
few_taken (suc n) [] = omega arith
few_taken (suc n) (x ∷ xs) = let few = few_taken n xs in omega (arith, few)

-- what begins with these begins so when more was heard
still_begins : (l : LinkNo) (log more : List LogEntry) (ms : List Message) → BeginsWith (messages_heard (heard_on l log)) ms → BeginsWith (messages_heard (heard_on l (log ++ more))) ms
still_begins l log more ms b =
    let t = heard_later (heard_on l log) (heard_on l more) in
    (b.0 ++ t.0, ap messages_heard (heard-append l log more) ∙ t.1 ∙ ap (λ (xs : List Message). xs ++ t.0) b.1 ∙ append_assoc ms b.0 t.0)

module _ (started : ℕ) (S : Scenario) (ranks : List ℕ) (rows : List Turn) where
  -- answers that were heard were heard when the log has grown
  pub still_heard : (log more : List LogEntry) (answers : List Message) → AreHeard started S rows log answers None → AreHeard started S rows (log ++ more) answers None
  still_heard log more answers h = record { links = λ i l linked. still_begins l log more _ (h.links i l linked); kinds = h.kinds; came = tt }

  -- the answers so far were heard
  pub heard_so_far : (log : List LogEntry) (answers : List Message) (C : CrewSeen) → IsAnswered started S rows log answers C → AreHeard started S rows log answers None
  heard_so_far log answers C a = record {
    links = λ i l e. let t = (a.between).channels i l e in subst (BeginsWith (messages_heard (heard_on l log))) (a.told i l e ∙ sym (append_nil (answers_to i (setup_requests S) answers)))
        (channel_heard log (a.replies i) _ _ t.0 l t.2 t.3);
    kinds = subst (AreKindAnswers rows S) (sym (append_nil answers)) a.kinds;
    came = tt;
  }

  -- between two requests
  pub all_answered : (log : List LogEntry) (answers : List Message) (C : CrewSeen) → IsAnswered started S rows log answers C → AreAnsweredButOne (attempt started S ranks rows log) (take (length answers) (setup_requests S))
  all_answered log answers C a = record { answers = answers; heard = heard_so_far log answers C a; but_one = let few = few_taken (length answers) (setup_requests S) in omega (arith, few) }

  -- behind a request
  pub one_unanswered : (log entries : List LogEntry) (answers : List Message) (C : CrewSeen) (r : Request) → IsAnswered started S rows log answers C → AreAnsweredButOne (attempt started S ranks rows (log ++ entries)) (take (length answers) (setup_requests S) ++ r ∷ [])
  one_unanswered log entries answers C r a = record {
    answers = answers;
    heard = still_heard log entries answers (heard_so_far log answers C a);
    but_one = let few = few_taken (length answers) (setup_requests S) in let size = length-append (take (length answers) (setup_requests S)) (r ∷ []) in omega (arith, few, size);
  }

  -- nothing was asked
  pub none_asked : AreAnsweredButOne (attempt started S ranks rows []) []
  none_asked = record {
    answers = [];
    heard = record {
      links = λ i l linked. (_, ap (λ (ms : List Message). (ms ++ []) ++ []) (sym (answers_none i (setup_requests S))));
      kinds = λ k r m asked given within. absurd (none_some given);
      came = tt;
    };
    but_one = omega arith;
  }

-- when the log has grown
pub still_answered : (A : Attempt) (more : List LogEntry) (queued : List Request) → AreAnsweredButOne A queued → AreAnsweredButOne (longer A more) queued
still_answered A more queued n = record { answers = n.answers; heard = still_heard A.started A.scenario A.ranks A.rows A.log more n.answers n.heard; but_one = n.but_one }

-- where a crew has begun, all requests were answered
pub begun_answered : (A : Attempt) (C : CrewSeen) (P : Plan) → HasBegun A C P → (more : List LogEntry) → AreAnsweredButOne (longer A more) (setup_requests A.scenario)
begun_answered A C P b more = still_answered A more (setup_requests A.scenario) (record {
  answers = b.answers;
  heard = record {
    links = λ i l linked. let t = b.begun.channels i l linked in subst (BeginsWith (messages_heard (heard_on l A.log))) (b.told i l linked ∙ sym (append_nil (answers_to i (setup_requests A.scenario) b.answers)))
        (channel_heard A.log (b.replies i) _ _ t.0 l t.2 t.3);
    kinds = subst (AreKindAnswers A.rows A.scenario) (sym (append_nil b.answers)) b.kinds;
    came = tt;
  };
  but_one = let all = b.made.all in omega (arith, all);
})
