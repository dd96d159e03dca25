-- The plan of a run fits the kinds of its simulators.
use Rattle.std.proofs.Common.{◌≡◌, ◌≢◌, inl, inr, ℕ, ℤ, zero, suc, ◌+◌, ◌<◌, ◌==◌, ◌≤ℤ◌, pos, true, List, [], ◌∷◌, map, filter, filter_map, fold, length, take, Option, Some, None, Result, Ok, option_map, unwrap_or, slice_get, codes, refl, sym, ap, ◌∙◌, subst, arith}
use Rattle.std.specs.List.{enumerate_from}
use Rattle.std.proofs.lemmas.Int.{ints}
use Rattle.std.proofs.lemmas.Option.{slice_get_within, get_or_from_slice_get}
use Rattle.std.specs.declared.cmp.Ordering.{Ordering}
use Rattle.std.specs.declared.cmp.Ordering.TheVariants.{Less, Equal, Greater}
use Rattle.mk_base.specs.declared.json.Json.{Json}
use Rattle.mk_base.specs.Lists.{IsIn, Each, put, placed}
use Rattle.mk_base.proofs.Lists.{some_same, none_some, below_get, in_filter}
use Rattle.mk_plan.specs.declared.Call.{Call}
use Rattle.mk_plan.specs.declared.Call.TheVariants.{Init}
use Rattle.mk_plan.specs.declared.Conn.{Conn}
use Rattle.mk_plan.specs.declared.Message.{Message}
use Rattle.mk_plan.specs.declared.Message.TheVariants.{Success}
use Rattle.mk_plan.specs.declared.Plan.{Plan}
use Rattle.mk_plan.specs.declared.PlanEntity.{PlanEntity}
use Rattle.mk_plan.specs.declared.Want.{Want}
use Rattle.mk_plan.specs.Plans.{IsValidPlan, kind_of, owner, first_id, sim_count}
use Rattle.mk_plan.specs.Turns.{wanted, want_of, want_order}
use Rattle.mk_meta.specs.declared.meta.Meta.{Meta}
use Rattle.mk_meta.specs.Metadata.{meta_in}
use Rattle.mk_scenario.specs.declared.parts.SimPart.{SimPart}
use Rattle.mk_scenario.specs.declared.parts.Scenario.{Scenario}
use Rattle.mk_launch.specs.Ready.{IsPrepared}
use Rattle.mk_local.specs.declared.turn.Turn.{Turn}
use Rattle.mk_local.specs.Accepted.{meta_of, IsMetadataAccepted}
use Rattle.mk_local.specs.Calls.{after_call, message, unless_bad, first_bad, is_init_param}
use Rattle.mk_local.specs.Kinds.{name_of, type_of}
use Rattle.mk_local.specs.Metadata.{metadata}
use Rattle.mk_local.specs.Simulators.{Simulator}
use Rattle.mk_run_laws.specs.Handshake.{setup_requests, call_to, calls_to, setup_count, is_within}
use Rattle.mk_setup.specs.Laws.{IsKindSaid}
use Rattle.mk_setup.specs.Requests.{id_before}
use Rattle.mk_run_local.specs.Laws.{FitsKinds}
use Rattle.mk_run_local.specs.Made.{first_at}
use Rattle.mk_run_crew.specs.Answers.{AreKindAnswers}
use Rattle.mk_run.proofs.Linked.{within_below}
use Rattle.mk_base.proofs.Items.{front_get}
use Rattle.mk_setup.proofs.Sequence.{init_to}
use Rattle.mk_run_local.proofs.Numbers.{calls_kind}
use Rattle.mk_run_crew.proofs.Simulators.{within_there}

-- ---- the first request to each simulator

init_at : (k : ℕ) (sims : List SimPart) (i : ℕ) (s : SimPart) → slice_get sims i ≡ Some s → slice_get (map init_to (enumerate_from k sims)) i ≡ Some (init_to (k + i, s))
init_at k [] i s e = absurd (none_some e)
init_at k (x ∷ sims) zero s e = let n : k ≡ k + 0 = omega arith in ap (λ (y : SimPart). Some (init_to (k, y))) (some_same e) ∙ ap (λ (j : ℕ). Some (init_to (j, s))) n
init_at k (x ∷ sims) (suc i) s e = let n : k + 1 + i ≡ k + suc i = omega arith in init_at (k + 1) sims i s e ∙ ap (λ (j : ℕ). Some (init_to (j, s))) n

first_request : (S : Scenario) (i : ℕ) (s : SimPart) → slice_get S.sims i ≡ Some s → slice_get (setup_requests S) i ≡ Some (record { sim = i; call = Init s.id s.params })
first_request S i s e =
    let n : 0 + i ≡ i = omega arith in
    front_get _ _ i _ (front_get _ _ i _ (init_at 0 S.sims i s e ∙ ap (λ (j : ℕ). Some (init_to (j, s))) n))

-- ---- a simulator keeps its kind

-- ---- what its reply to `init` says

said_metadata : (T : Turn) (bad : Option (List ℕ)) (id other : ℕ) (content : Json) → message id (unless_bad bad (metadata T)) ≡ Success other content → metadata T ≡ content
said_metadata T None id other content e = cc
said_metadata T (Some name) id other content e = cc

pub same_ok : {A E : Type 0} (x y : A) (r : Result A E) → r ≡ Ok x → r ≡ Ok y → x ≡ y
same_ok x y r e f = cc

same_meta : (T : Turn) (content : Json) (m : Meta) → IsMetadataAccepted → metadata T ≡ content → meta_in content ≡ Ok m → m.kind ≡ type_of T
same_meta T content m accepted is read = ap (λ (n : Meta). n.kind) (same_ok m (meta_of T) (meta_in content) read (ap meta_in (sym is) ∙ accepted T))

-- ---- what is wanted

put_each : (Q : Want → Type 0) (w : Want) (ws : List Want) → Q w → Each Q ws → Each Q (put want_order w ws)
put_each Q w [] here all = (here, tt)
put_each Q w (v ∷ ws) here all = by_order (want_order w v) (put_each Q w ws here all.1)
  where
    by_order : (o : Ordering) → Each Q (put want_order w ws) → Each Q (placed o w v ws (put want_order w ws))
    by_order Less rest = (here, (all.0, all.1))
    by_order Equal rest = (here, all.1)
    by_order Greater rest = (all.0, rest)

puts_each : (Q : Want → Type 0) (P : Plan) (cs : List Conn) (ws : List Want) → ((c : Conn) → IsIn c cs → Q (want_of P c)) → Each Q ws → Each Q (fold (λ (l : List Want) (c : Conn). put want_order (want_of P c) l) ws cs)
puts_each Q P [] ws each all = all
puts_each Q P (c ∷ cs) ws each all = puts_each Q P cs (put want_order (want_of P c) ws) (λ d m. each d (inr m)) (put_each Q (want_of P c) ws (each c (inl refl)) all)

at_place : {X : Type 0} (x : X) (xs : List X) → IsIn x xs → (i : ℕ) × (slice_get xs i ≡ Some x)
at_place x [] m = absurd m
at_place x (y ∷ xs) (inl e) = (0, ap Some (sym e))
at_place x (y ∷ xs) (inr m) = let t = at_place x xs m in (suc t.0, t.1)

abbrev NotTime : Want → Type 0
NotTime w = w.eid ≢ codes "time"

named : (P : Plan) → IsValidPlan P → (c : Conn) → IsIn c P.conns → NotTime (want_of P c)
named P valid c m =
    let t = at_place c P.conns m in
    let low : c.from < length P.entities =
    subst (λ (d : Conn). d.from < length P.entities) (get_or_from_slice_get P.conns t.0 c c t.1) (valid.well_formed.references.conns t.0 c (slice_get_within P.conns t.0 c t.1)).0 in
    let n = below_get P.entities c.from low in
    let fine : n.0.eid ≢ codes "time" = subst (λ (e : PlanEntity). e.eid ≢ codes "time") (get_or_from_slice_get P.entities c.from n.0 n.0 n.1) (valid.well_formed.names.named c.from n.0 low).1 in
    subst (λ (o : Option PlanEntity). unwrap_or (option_map (λ (e : PlanEntity). e.eid) o) [] ≢ codes "time") (sym n.1) fine

pub not_time : (P : Plan) → IsValidPlan P → (i : ℕ) → Each NotTime (wanted P i)
not_time P valid i = puts_each NotTime P (filter (λ (c : Conn). owner P c.from == i) P.conns) [] (λ c m. named P valid c (in_filter (λ (c : Conn). owner P c.from == i) c P.conns m).0) tt

-- ---- all together

from_zero : (n : ℤ) → pos 1 ≤ℤ n → pos 0 ≤ℤ n
from_zero n h = grind (arith, ints)

module _ (S : Scenario) (rows : List Turn) (answers : List Message) (P : Plan) (accepted : IsMetadataAccepted) (prepared : IsPrepared S (map name_of rows)) (valid : IsValidPlan P) (sims : sim_count P ≡ length S.sims)
    (first : (i : ℕ) → i < sim_count P → first_id P i ≡ setup_count S i) (kinds : AreKindAnswers rows S answers) (said : (i : ℕ) → i < length S.sims → IsKindSaid answers P i) where
  said_kind : (i : ℕ) (F : Simulator) → first_at rows S i ≡ Some F → is_within S i ≡ true → kind_of P i ≡ type_of F.kind
  said_kind i F there within =
      let low = within_below S i within in
      let s = below_get S.sims i low in
      let k = said i low in
      let a = kinds i (record { sim = i; call = Init s.0.id s.0.params }) (Success k.id k.content) (first_request S i s.0 s.1) k.answer within in
      let calls : List Call = filter_map (call_to i) (take i (setup_requests S)) in
      let same : a.sim.kind ≡ F.kind = ap (λ (L : Simulator). L.kind) (some_same (sym a.before ∙ ap (option_map (λ (L : Simulator). fold after_call L calls)) there)) ∙ calls_kind F calls in
      k.kind ∙ same_meta F.kind k.content k.meta accepted (ap metadata (sym same) ∙ said_metadata a.sim.kind (first_bad (is_init_param a.sim.kind) s.0.params) (id_before S i i) k.id k.content (some_same a.reply)) k.read

  pub fits : FitsKinds rows S P
  fits = record {
    there = λ i within. let t = within_there rows S prepared i within in (
      fold after_call t.0 (calls_to S i),
      ap (option_map (λ (L : Simulator). fold after_call L (calls_to S i))) t.1,
      said_kind i t.0 t.1 within ∙ sym (ap type_of (calls_kind t.0 (calls_to S i))),
    );
    wants = λ i within. not_time P valid i;
    first = λ i within. first i (subst (λ (n : ℕ). i < n) (sym sims) (within_below S i within));
    end = (from_zero P.until valid.well_formed.limits.until.0, valid.well_formed.limits.until.1);
  }
