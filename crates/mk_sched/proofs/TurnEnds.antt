-- The core takes the last message of a turn.
use Rattle.std.proofs.Common.{◌≡◌, suc, ◌+◌, ℤ, pos, ◌≤ℤ◌, ◌<ℤ◌, Bool, false, List, [], ◌∷◌, ◌++◌, length, map, Option, Some, None, Ok, option_map, option_and_then, unwrap_or, slice_get, int_lt, if◌then◌else◌, refl, sym, ap, ◌∙◌, subst, inl, inr, arith}
use Rattle.std.specs.Option.{ForSome}
use Rattle.std.proofs.lemmas.Int.{ints}
use Rattle.mk_base.specs.declared.SimNo.{SimNo}
use Rattle.mk_base.specs.declared.tier.Tier.{Tier}
use Rattle.mk_base.specs.declared.json.Json.{Json}
use Rattle.mk_base.specs.Lists.{IsIn}
use Rattle.mk_base.specs.Tiers.{moment}
use Rattle.mk_base.specs.Trees.{whole_in}
use Rattle.mk_base.proofs.Lists.{in_each, in_back}
use Rattle.mk_plan.specs.declared.Plan.{Plan}
use Rattle.mk_plan.specs.declared.Conn.{Conn}
use Rattle.mk_plan.specs.declared.Message.{Message}
use Rattle.mk_plan.specs.declared.Entry.{Entry}
use Rattle.mk_plan.specs.declared.Entry.TheVariants.{Got}
use Rattle.mk_plan.specs.Plans.{has_outputs}
use Rattle.mk_plan.specs.declared.Place.{Place}
use Rattle.mk_plan.specs.Turns.{time_in, wrong, next_place}
use Rattle.mk_plan.specs.Acts.{Act, content_of, contents, outputs_in, next_time, made}
use Rattle.mk_plan.specs.Journals.{View, OpenTurn, ended_turn, loop_fault, note_right, note, view}
use Rattle.mk_plan.specs.Ready.{IsReady}
use Rattle.mk_plan.specs.Advance.{IsAdvance}
use Rattle.mk_order.proofs.Past.{view_right}
use Rattle.mk_order.proofs.Pushing.{view_push, orderly_push}
use Rattle.mk_order.proofs.RightActs as acts
use Rattle.mk_sched_agenda.specs.declared.outlets.Outlet.{Outlet}
use Rattle.mk_sched_agenda.specs.declared.outlets.Beyond.{Beyond}
use Rattle.mk_sched_agenda.specs.Outlets.{AreOutletsOf, outlets_in}
use Rattle.mk_plan.specs.Deliveries.{triggering_from}
use Rattle.mk_sched_agenda.specs.Mirrors.{Mirrors}
use Rattle.mk_sched_agenda.specs.Endings.{IsLast, given_by, fault_of}
use Rattle.mk_sched_open.specs.Sims.{AreSimsOf}
use Rattle.mk_sched_open.specs.Turns.{IsRight, next_in}
use Rattle.mk_sched_supply.specs.Stock.{IsStockOf}
use Rattle.mk_sched.specs.declared.derived.Derived.{Derived}
use Rattle.mk_sched.specs.declared.faults.Ended.TheVariants.{Faulty}
use Rattle.mk_sched.specs.declared.faults.Taken.TheVariants as taken
use Rattle.mk_sched.specs.inner.Derived.{IsDerived, HasTaken, IsTaking, EndsStep, core_of, limit_by, made_at}
use Rattle.mk_sched.proofs.Standing.{derived_push}
use Rattle.mk_sched.proofs.Judged.{IsEnd, step_end, noted_right, none_leaves}
use Rattle.mk_sched.proofs.Arrived.{its, got_allowed, the_room, no_end}
use Rattle.mk_base.proofs.Counts.{same_self}

-- ---- outlets and what is given

pub as_many : (P : Plan) (cs : List Conn) (os : List Outlet) → AreOutletsOf P cs os → length os ≡ length cs
as_many P [] [] all = refl
as_many P [] (o ∷ os) all = absurd all
as_many P (c ∷ cs) [] all = absurd all
as_many P (c ∷ cs) (o ∷ os) all = ap suc (as_many P cs os all.1)

module _ (P : Plan) (J : List Entry) (K : Derived) (sim : SimNo) (m : Message) (taking : IsTaking P J K sim m) (T : OpenTurn) (right : IsRight P (view P J) sim.0 m T None) where
  outlet_count : length (outlets_in K.agenda.outlets sim.0) ≡ length (triggering_from P sim.0)
  outlet_count = as_many P (triggering_from P sim.0) (outlets_in K.agenda.outlets sim.0) ((its P J K sim m taking).agenda.plan.outlets sim.0 taking.there)

  pub given_all : (flags : List Bool) → flags ≡ given_by P sim.0 (ended_turn T m) → length flags ≡ length (outlets_in K.agenda.outlets sim.0)
  given_all flags is = ap length is ∙ map_length (λ (c : Conn). _) (triggering_from P sim.0) ∙ sym outlet_count
    where
      map_length : {X Y : Type 0} (f : X → Y) (xs : List X) → length (map f xs) ≡ length xs
      map_length f [] = refl
      map_length f (x ∷ xs) = ap suc (map_length f xs)

  pub given_none : has_outputs P sim.0 ≡ false → [] ≡ given_by P sim.0 (ended_turn T m)
  given_none none = sym (ap (map _) (none_leaves P sim.0 none))

  -- ---- the act

  noted : note P (view P J) (Got sim m) ≡ note_right P (view P J) sim.0 m T None
  noted = noted_right P (view P J) sim m T None right

  right_act : acts.IsRight (ended_turn T m)
  right_act = in_each acts.IsRight (ended_turn T m) ((view P (J ++ Got sim m ∷ [])).acts sim.0)
      (view_right IsReady IsAdvance P (λ V s x r. r) taking.derived.valid (J ++ Got sim m ∷ []) (orderly_push IsReady IsAdvance P J (Got sim m) taking.derived.orderly.0 (got_allowed P J K sim m taking)) sim.0)
      (subst (λ (V : View). IsIn (ended_turn T m) (V.acts sim.0)) (sym (view_push P J (Got sim m) ∙ noted))
      (subst (λ (l : List Act). IsIn (ended_turn T m) l) (sym (ap (λ (b : Bool). if b then (view P J).acts sim.0 ++ ended_turn T m ∷ [] else (view P J).acts sim.0) (same_self sim.0)))
      (in_back (ended_turn T m) ((view P J).acts sim.0) (ended_turn T m ∷ []) (inl refl))))

  pub next_not_negative : (n : Option ℤ) → n ≡ next_time (ended_turn T m) → ForSome n (λ n. pos 0 ≤ℤ n)
  next_not_negative n is k e = let l : T.at.time <ℤ k = right_act.next k (sym is ∙ e) in let z : pos 0 ≤ℤ T.at.time = right_act.time in grind (arith, ints)

  pub last : (x : Tier) (n : Option ℤ) (flags : List Bool) → x ≡ made (ended_turn T m) → n ≡ next_time (ended_turn T m) → flags ≡ given_by P sim.0 (ended_turn T m) → IsLast P J sim T m x n flags
  last x n flags when next given = record {
    valid = taking.derived.valid;
    orderly = taking.derived.orderly.0;
    allowed = got_allowed P J K sim m taking;
    opened = right.opened;
    right = right.right;
    over = right.goes;
    made = when;
    next = next;
    given = given;
  }

  -- ---- the end by the reply to the Step

  pub ends_step : (x : Tier) → (ends : EndsStep P (view P J) sim.0 m x) → IsEnd P sim.0 m × (has_outputs P sim.0 ≡ false)
  ends_step x ends = step_end P sim.0 x ends.id ends.asks m (ap (λ (p : Place). wrong P sim.0 p m) (sym ends.judged.same) ∙ ends.judged.right.right) (ap (λ (p : Place). next_place P sim.0 p m) (sym ends.judged.same) ∙ ends.judged.right.goes)

  module _ (x : Tier) (content : Json) (is : content_of m ≡ Some content) (ends : (contents (ended_turn T m) ≡ content ∷ []) × (T.at ≡ x)) where
    pub step_outputs : outputs_in (ended_turn T m) ≡ None
    step_outputs = ap (λ (l : List Json). slice_get l 1) ends.0

    pub step_made : x ≡ made (ended_turn T m)
    step_made = sym ends.1 ∙ sym (ap (λ (o : Option Json). unwrap_or (option_map (λ (o : ℤ). if int_lt T.at.time o then moment o else T.at) (option_and_then (λ content. option_and_then whole_in (time_in content)) o)) T.at) step_outputs)

    pub step_next : next_in m ≡ next_time (ended_turn T m)
    step_next = ap (option_and_then whole_in) is ∙ sym (ap (λ (l : List Json). option_and_then whole_in (slice_get l 0)) ends.0)

  -- ---- the end by the reply to the GetData

  pub fetch_made : (x : Tier) (content : Json) → (outputs_in (ended_turn T m) ≡ Some content) × (T.at ≡ x) → made_at x content ≡ made (ended_turn T m)
  fetch_made x content ends = ap (λ (t : Tier). made_at t content) (sym ends.1)
      ∙ sym (ap (λ (o : Option Json). unwrap_or (option_map (λ (o : ℤ). if int_lt T.at.time o then moment o else T.at) (option_and_then (λ content. option_and_then whole_in (time_in content)) o)) T.at) ends.0)

  -- ---- what is answered

  pub taken_limit : (b : Beyond) → loop_fault P sim.0 (ended_turn T m) ≡ Some (fault_of b) → (L : Derived) (M : List Entry) → M ≡ J ++ Got sim m ∷ [] → HasTaken P J sim m (Ok (taken.Fault (limit_by b))) L M
  taken_limit b limit L M same = record {
    derived = subst (λ (N : List Entry). IsDerived P N L (Some (Faulty (limit_by b)))) (sym same)
        (derived_push P J K L (Some (Faulty (limit_by b))) (Got sim m) taking.derived taking.room (got_allowed P J K sim m taking) (inl (ap (λ (V : View). V.owed) noted ∙ (its P J K sim m taking).none_owed)) (no_end (Faulty (limit_by b))));
    ok = inr (inr (inl (record {
      room = the_room P J K sim m taking;
      named = refl;
      made = ap (λ (V : View). V.fault) (view_push P J (Got sim m) ∙ noted) ∙ limit;
      ended = ap (λ (N : List Entry). core_of P N (Some (Faulty (limit_by b)))) same;
    })));
    err = tt;
  }

  pub taken_ended : loop_fault P sim.0 (ended_turn T m) ≡ None → (L : Derived) (M : List Entry) → M ≡ J ++ Got sim m ∷ [] → AreSimsOf P (note_right P (view P J) sim.0 m T None) (length J + 1) L.sims → Mirrors P (note P (view P J) (Got sim m)) L.agenda
      → IsStockOf P (note_right P (view P J) sim.0 m T None) L.stock → HasTaken P J sim m (Ok taken.Quiet) L M
  taken_ended fine L M same sims agenda stock = record {
    derived = subst (λ (N : List Entry). IsDerived P N L None) (sym same)
        (derived_push P J K L None (Got sim m) taking.derived taking.room (got_allowed P J K sim m taking) (inl none_owed)
        (λ going. record {
          sims = subst (λ (V : View). AreSimsOf P V (length J + 1) L.sims) (sym noted) sims;
          agenda = agenda;
          stock = subst (λ (V : View). IsStockOf P V L.stock) (sym noted) stock;
          no_fault = no_fault;
          none_owed = none_owed;
        }));
    ok = record {
      room = the_room P J K sim m taking;
      no_fault = ap (λ (V : View). V.fault) (view_push P J (Got sim m)) ∙ no_fault;
      none_owed = ap (λ (V : View). V.owed) (view_push P J (Got sim m)) ∙ none_owed;
      moved = ap (λ (N : List Entry). core_of P N None) same;
    };
    err = tt;
  }
    where
      none_owed : (note P (view P J) (Got sim m)).owed ≡ None
      none_owed = ap (λ (V : View). V.owed) noted ∙ (its P J K sim m taking).none_owed

      no_fault : (note P (view P J) (Got sim m)).fault ≡ None
      no_fault = ap (λ (V : View). V.fault) noted ∙ fine
