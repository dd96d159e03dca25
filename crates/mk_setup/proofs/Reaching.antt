-- What is known of the states that replies lead to.
use Rattle.std.proofs.Common.{◌≡◌, ℕ, zero, suc, ◌+◌, ◌<◌, ◌≤◌, ◌⊎◌, true, false, List, [], ◌∷◌, ◌++◌, length, min, Some, None, Result, Ok, Err, slice_get, refl, sym, ap, ◌∙◌, subst, inl, inr, arith, length-append}
use Rattle.std.specs.Prelude.{fold}
use Rattle.std.proofs.lemmas.Option.{slice_get_within}
use Rattle.std.proofs.lemmas.Bool.{cases_lt}
use Rattle.mk_base.specs.declared.json.Json.{Json}
use Rattle.mk_base.proofs.Lists.{none_some, some_same}
use Rattle.mk_base.specs.Verdicts.{passed}
use Rattle.mk_plan.specs.declared.Message.{Message}
use Rattle.mk_plan.specs.declared.Message.TheVariants.{Success}
use Rattle.mk_meta.specs.declared.meta.Meta.{Meta}
use Rattle.mk_meta.specs.Metadata.{meta_in}
use Rattle.mk_scenario.specs.declared.parts.Scenario.{Scenario}
use Rattle.mk_setup.specs.declared.fault.SetupFault.{SetupFault}
use Rattle.mk_setup.specs.Asking.{after_asking, fault_before}
use Rattle.mk_setup.specs.Handshakes.{after_answer, answering, begun, next_sim, reached}
use Rattle.mk_setup.specs.Laws.{IsReplyTo}
use Rattle.mk_setup.specs.Requests.{id_before}
use Rattle.mk_setup.specs.Seen.{SetupState}
use Rattle.mk_setup.proofs.Sequence.{get_front, get_back}
use Rattle.mk_setup.proofs.Replied.{IsMoved, IsTaken, asking_ok, metas_are, moved_on, ok_err, ok_same, reply_ok}

pub passed_ok : (r : Result SetupState SetupFault) (next : SetupState → Result SetupState SetupFault) (V : SetupState) → passed r next ≡ Ok V → (U : SetupState) × (r ≡ Ok U) × (next U ≡ Ok V)
passed_ok (Ok U) next V e = (U, refl, e)
passed_ok (Err f) next V e = absurd (ok_err (sym e))

-- one reply more: from the state U, by its request, to V
pub record IsStep (U : SetupState) (m : Message) (V : SetupState) : Type 0 where
  pub asked : SetupState
  pub asks : after_asking U ≡ Ok asked
  pub untested : fault_before U ≡ None
  pub same : asked ≡ record U { asked = true }
  pub taken : IsTaken asked V (record { sim = next_sim asked; message = m })

pub step_ok : (v : Result SetupState SetupFault) (m : Message) (V : SetupState) → answering v m ≡ Ok V → (U : SetupState) × (v ≡ Ok U) × IsStep U m V
step_ok v m V e =
    let t = passed_ok (passed v after_asking) (after_answer m) V e in
    let s = passed_ok v after_asking t.0 t.1 in
    let a = asking_ok s.0 t.0 s.2 in
    (s.0, s.1, record { asked = t.0; asks = s.2; untested = a.0; same = a.1; taken = reply_ok t.0 V (record { sim = next_sim t.0; message = m }) t.2 })

-- what one reply changes
pub record IsOneOn (U : SetupState) (m : Message) (V : SetupState) : Type 0 where
  pub scenario : V.scenario ≡ U.scenario
  pub ranks : V.ranks ≡ U.ranks
  pub fault : V.fault ≡ U.fault
  pub answered : V.answered ≡ U.answered + 1
  pub asked : V.asked ≡ false
  pub reply : IsReplyTo U.scenario U.answered m

one_on : (U : SetupState) (m : Message) (V : SetupState) → IsStep U m V → IsOneOn U m V
one_on U m V step =
    let t = step.taken in
    let q : IsMoved step.asked V = moved_on step.asked V (record { 0 = next_sim step.asked }) t.request.call t.content t.adds in
    let same = step.same in
    record {
      scenario = q.scenario ∙ ap (λ (W : SetupState). W.scenario) same;
      ranks = q.ranks ∙ ap (λ (W : SetupState). W.ranks) same;
      fault = q.fault ∙ ap (λ (W : SetupState). W.fault) same;
      answered = q.answered ∙ ap (λ (W : SetupState). W.answered + 1) same;
      asked = q.asked;
      reply = subst (λ (W : SetupState). IsReplyTo W.scenario W.answered m) same (record { request = t.request; content = t.content; asked = t.is; is = t.message });
    }

-- the metadata in a state: one for each simulator that has replied
abbrev pub HasMetas : SetupState → Type 0
HasMetas U = length U.metas ≡ min U.answered (length U.scenario.sims)

-- a simulator's metadata is from before, or from the reply at its place
pub record IsFrom (U : SetupState) (answers : List Message) (i : ℕ) (meta : Meta) : Type 0 where
  pub place : ℕ
  pub at : i ≡ U.answered + place
  pub id : ℕ
  pub content : Json
  pub answer : slice_get answers place ≡ Some (Success id content)
  pub read : meta_in content ≡ Ok meta

-- what replies lead to, from the state U on
pub record IsAfter (U : SetupState) (answers : List Message) (V : SetupState) : Type 0 where
  pub scenario : V.scenario ≡ U.scenario
  pub ranks : V.ranks ≡ U.ranks
  pub fault : V.fault ≡ U.fault
  pub count : V.answered ≡ U.answered + length answers
  pub rests : U.asked ≡ false → V.asked ≡ false
  pub replies : (k : ℕ) (m : Message) → slice_get answers k ≡ Some m → IsReplyTo U.scenario (U.answered + k) m
  pub counts : HasMetas U → HasMetas V
  pub metas : HasMetas U → (i : ℕ) (meta : Meta) → slice_get V.metas i ≡ Some meta → (slice_get U.metas i ≡ Some meta) ⊎ IsFrom U answers i meta

nothing_after : (U : SetupState) → IsAfter U [] U
nothing_after U = record {
  scenario = refl;
  ranks = refl;
  fault = refl;
  count = omega arith;
  rests = λ e. e;
  replies = λ k m e. absurd (none_some e);
  counts = λ h. h;
  metas = λ h i meta e. inl e;
}

-- the metadata after one reply
step_metas : (U : SetupState) (m : Message) (V : SetupState) → IsStep U m V → HasMetas U
    → HasMetas V × ((i : ℕ) (meta : Meta) → slice_get V.metas i ≡ Some meta → (slice_get U.metas i ≡ Some meta) ⊎ ((i ≡ U.answered) × (id : ℕ) × (content : Json) × (m ≡ Success id content) × (meta_in content ≡ Ok meta)))
step_metas U m V step has = elim (metas_are step.asked V (record { 0 = next_sim step.asked }) t.request t.content t.is t.adds) [
  | inl said ↦
      let early : U.answered < length U.scenario.sims = subst (λ (W : SetupState). W.answered < length W.scenario.sims) step.same said.early in
      let metas : V.metas ≡ U.metas ++ said.meta ∷ [] = said.metas ∙ ap (λ (W : SetupState). W.metas ++ said.meta ∷ []) step.same in
      let long : length U.metas ≡ U.answered = omega arith in
      let longer : length V.metas ≡ length U.metas + 1 = ap length metas ∙ length-append U.metas (said.meta ∷ []) in
      let scenario : length V.scenario.sims ≡ length U.scenario.sims = ap (λ (S : Scenario). length S.sims) one.scenario in
      let count : V.answered ≡ U.answered + 1 = one.answered in (
        omega arith,
        λ i meta e. elim (cases_lt i (length U.metas)) [
          | inl below ↦ inl (sym (get_front U.metas (said.meta ∷ []) i below) ∙ ap (λ (l : List Meta). slice_get l i) (sym metas) ∙ e)
          | inr from ↦
              let within : i < length V.metas = slice_get_within V.metas i meta e in
              let here : i ≡ length U.metas + 0 = omega arith in
              let is : said.meta ≡ meta = some_same (sym (get_back U.metas (said.meta ∷ []) i 0 here) ∙ ap (λ (l : List Meta). slice_get l i) (sym metas) ∙ e) in
              let at : i ≡ U.answered = omega arith in
              inr (at, id_before step.asked.scenario step.asked.answered t.request.sim, t.content, t.message, said.read ∙ ap Ok is)
        ],
      )
  | inr had ↦
      let late : length U.scenario.sims ≤ U.answered = subst (λ (W : SetupState). length W.scenario.sims ≤ W.answered) step.same had.late in
      let metas : V.metas ≡ U.metas = had.metas ∙ ap (λ (W : SetupState). W.metas) step.same in
      let same : length V.metas ≡ length U.metas = ap length metas in
      let scenario : length V.scenario.sims ≡ length U.scenario.sims = ap (λ (S : Scenario). length S.sims) one.scenario in
      let count : V.answered ≡ U.answered + 1 = one.answered in
      (omega arith, λ i meta e. inl (ap (λ (l : List Meta). slice_get l i) (sym metas) ∙ e))
]
  where
    t : IsTaken step.asked V (record { sim = next_sim step.asked; message = m })
    t = step.taken

    one : IsOneOn U m V
    one = one_on U m V step

-- one reply, and then others
step_after : (U : SetupState) (m : Message) (W : SetupState) (answers : List Message) (V : SetupState) → IsStep U m W → IsAfter W answers V → IsAfter U (m ∷ answers) V
step_after U m W answers V step rest = record {
  scenario = rest.scenario ∙ one.scenario;
  ranks = rest.ranks ∙ one.ranks;
  fault = rest.fault ∙ one.fault;
  count = let c = rest.count in let d = one.answered in omega arith;
  rests = λ e. rest.rests one.asked;
  replies = replies;
  counts = λ h. rest.counts (step_metas U m W step h).0;
  metas = λ h i meta e. elim (rest.metas (step_metas U m W step h).0 i meta e) [
    | inl old ↦ elim ((step_metas U m W step h).1 i meta old) [
      | inl older ↦ inl older
      | inr new ↦ inr (record { place = 0; at = let at = new.0 in omega arith; id = new.1; content = new.2; answer = ap Some new.3; read = new.4 })
    ]
    | inr from ↦ inr (record { place = suc from.place; at = let at = from.at in let d = one.answered in omega arith; id = from.id; content = from.content; answer = from.answer; read = from.read })
  ];
}
  where
    one : IsOneOn U m W
    one = one_on U m W step

    at_zero : (n : ℕ) → n ≡ n + 0
    at_zero n = omega arith

    next : (k : ℕ) → W.answered + k ≡ U.answered + suc k
    next k = let d = one.answered in omega arith

    replies : (k : ℕ) (n : Message) → slice_get (m ∷ answers) k ≡ Some n → IsReplyTo U.scenario (U.answered + k) n
    replies zero n e = let P : ℕ → Type 0 = λ j. IsReplyTo U.scenario j n in subst P (at_zero U.answered) (subst (λ (o : Message). IsReplyTo U.scenario U.answered o) (some_same e) one.reply)
    replies (suc k) n e = let P : ℕ → Type 0 = λ j. IsReplyTo U.scenario j n in subst P (next k) (subst (λ (S : Scenario). IsReplyTo S (W.answered + k) n) one.scenario (rest.replies k n e))

-- whatever leads to a state began with one
pub after_all : (answers : List Message) (v : Result SetupState SetupFault) (V : SetupState) → fold answering v answers ≡ Ok V → (U : SetupState) × (v ≡ Ok U) × IsAfter U answers V
after_all [] v V e = (V, e, nothing_after V)
after_all (m ∷ answers) v V e =
    let t = after_all answers (answering v m) V e in
    let s = step_ok v m t.0 t.1 in
    (s.0, s.1, step_after s.0 m t.0 answers V s.2 t.2)

pub reached_after : (S : Scenario) (ranks : List ℕ) (answers : List Message) (V : SetupState) → reached S ranks answers ≡ Ok V → IsAfter (begun S ranks) answers V
reached_after S ranks answers V e = let t = after_all answers (Ok (begun S ranks)) V e in subst (λ (U : SetupState). IsAfter U answers V) (sym (ok_same t.1)) t.2
