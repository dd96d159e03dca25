-- The core takes a message: it is wrong, there is no room, or the turn goes on.
use Rattle.std.proofs.Common.{◌≡◌, ◌≢◌, ℕ, ◌+◌, ◌≤◌, false, List, [], ◌∷◌, ◌++◌, length, Option, Some, None, Result, Ok, Err, IfOk, IfErr, refl, sym, ap, ◌∙◌, subst, inl, inr, arith, IsSome, true≢false}
use Rattle.mk_base.specs.declared.Mem.{Mem}
use Rattle.mk_base.specs.declared.SimNo.{SimNo}
use Rattle.mk_base.specs.declared.tier.Tier.{Tier}
use Rattle.mk_base.specs.declared.json.Json.{Json}
use Rattle.mk_base.proofs.Lists.{none_some}
use Rattle.mk_plan.specs.declared.Plan.{Plan}
use Rattle.mk_plan.specs.declared.Message.{Message}
use Rattle.mk_plan.specs.declared.Message.TheVariants.{Ask, Success, Failure}
use Rattle.mk_plan.specs.declared.Entry.{Entry}
use Rattle.mk_plan.specs.declared.Entry.TheVariants.{Sent, Got}
use Rattle.mk_plan.specs.declared.Item.{Item}
use Rattle.mk_plan.specs.declared.Item.TheVariants.{GetData}
use Rattle.mk_plan.specs.declared.Want.{Want}
use Rattle.mk_plan.specs.declared.Place.{Place}
use Rattle.mk_plan.specs.declared.Cause.{Cause}
use Rattle.mk_plan.specs.declared.Cause.TheVariants as cause
use Rattle.mk_plan.specs.Turns.{wrong, wanted}
use Rattle.mk_plan.specs.Acts.{is_ask}
use Rattle.mk_plan.specs.Deliveries.{supply}
use Rattle.mk_plan.specs.Sequential.{response}
use Rattle.mk_plan.specs.Report.{is_step}
use Rattle.mk_plan.specs.Journals.{View, OpenTurn, Owed, Fault, WrongMessage, FailedSim, fault_of, heard, place_at, note_right, note_sent, note, view}
use Rattle.mk_plan.specs.Orderly.{IsAllowed, IsNext}
use Rattle.mk_plan.specs.Ready.{IsReady}
use Rattle.mk_plan.specs.Advance.{IsAdvance}
use Rattle.mk_order.proofs.Pushing.{view_push, orderly_push}
use Rattle.mk_order.proofs.Seen.{reached_sound}
use Rattle.mk_sched_agenda.specs.Mirrors.{Mirrors}
use Rattle.mk_sched_agenda.proofs.Mirroring.{told_mirrors, went_mirrors}
use Rattle.mk_sched_open.specs.Sims.{AreSimsOf}
use Rattle.mk_sched_open.specs.Turns.{IsRight}
use Rattle.mk_sched_supply.specs.Stock.{IsStockOf, MayComeNext}
use Rattle.mk_sched_supply.specs.declared.stock.Stock.{Stock}
use Rattle.mk_sched.specs.declared.derived.Derived.{Derived}
use Rattle.mk_sched.specs.declared.faults.CoreFault.{CoreFault}
use Rattle.mk_sched.specs.declared.faults.CoreFault.TheVariants.{TooLong}
use Rattle.mk_sched.specs.declared.faults.Ended.{Ended}
use Rattle.mk_sched.specs.declared.faults.Ended.TheVariants.{Faulty, OutOfMemory}
use Rattle.mk_sched.specs.declared.faults.Taken.{Taken}
use Rattle.mk_sched.specs.declared.faults.Taken.TheVariants as taken
use Rattle.mk_sched.specs.declared.taking.Upshot.{Upshot}
use Rattle.mk_sched.specs.Answers.{ArriveOf, HasRoom, IsOutOfMemory, fault_in}
use Rattle.mk_sched.specs.Cores.{CoreState}
use Rattle.mk_sched.specs.inner.Derived.{IsCurrent, IsDerived, HasTaken, IsTaking, Leaves, core_of, end_after_arrive, entries_by, fault_by, taken_by}
use Rattle.mk_sched.proofs.Standing.{derived_push, derived_twice, ended_derived, failed_core, one_longer}
use Rattle.mk_sched.proofs.Judged.{noted_wrong, noted_right}

-- nothing is claimed of what is derived after an end
pub no_end : {X : Type 0} (end : Ended) → Some end ≡ None → X
no_end end e = absurd (none_some (sym e))

pub taken_failed : (P : Plan) (J : List Entry) (K : Derived) → IsDerived P J K None → (sim : SimNo) (m : Message) (e : Mem) (L : Derived) (M : List Entry) → M ≡ J → HasTaken P J sim m (Err e) L M
taken_failed P J K derived sim m e L M same = record { derived = ended_derived P J K derived M L OutOfMemory same; ok = tt; err = same }

-- what follows a message is in the journal
pub taken_pushed : (P : Plan) (J : List Entry) (K : Derived) → IsDerived P J K None → (sim : SimNo) (m : Message) (u : Upshot) (L : Derived) → Leaves P J sim m u L → (r : Result Taken Mem) (M : List Entry) → IfOk r (λ t. (t ≡ taken_by u) × (M ≡ entries_by J sim m u)) → IfErr r (λ _. M ≡ J) → HasTaken P J sim m r L M
taken_pushed P J K derived sim m u L leaves (Ok t) M ok err =
    subst (λ (n : Taken). HasTaken P J sim m (Ok n) L M) (sym ok.0) (subst (λ (N : List Entry). HasTaken P J sim m (Ok (taken_by u)) L N) (sym ok.1) leaves)
taken_pushed P J K derived sim m u L leaves (Err e) M ok err = taken_failed P J K derived sim m e L M err

-- a core by its fields, before and after
pub arrived_ok : (P : Plan) (J M : List Entry) (sim : SimNo) (m : Message) (r : Result Taken Mem) (L : Derived) → HasTaken P J sim m r L M → (old : CoreState) (o n : Option Ended) → old ≡ core_of P J o → o ≡ None → n ≡ end_after_arrive r → IfOk r (λ t. ArriveOf old sim m t (core_of P M n))
arrived_ok P J M sim m r L taken old o n is none end =
    subst (λ (k : CoreState). IfOk r (λ t. ArriveOf k sim m t (core_of P M n))) (sym (is ∙ ap (λ (e : Option Ended). core_of P J e) none))
    (subst (λ (e : Option Ended). IfOk r (λ t. ArriveOf (core_of P J None) sim m t (core_of P M e))) (sym end) taken.ok)

pub arrived_err : (P : Plan) (J M : List Entry) (sim : SimNo) (m : Message) (r : Result Taken Mem) (L : Derived) → HasTaken P J sim m r L M → (old : CoreState) (o n : Option Ended) → old ≡ core_of P J o → o ≡ None → n ≡ end_after_arrive r → IfErr r (λ _. IsOutOfMemory old (core_of P M n))
arrived_err P J M sim m (Ok t) L taken old o n is none end = tt
arrived_err P J M sim m (Err e) L taken old o n is none end = failed_core P J M old o n is none end taken.err

pub few_entries : (P : Plan) (J : List Entry) (K : Derived) (end : Option Ended) → IsDerived P J K end → length J ≤ 20000000
few_entries P J K end derived = let a : length J ≤ P.entries = derived.within in let b : P.entries ≤ 20000000 = derived.valid.well_formed.limits.entries.1 in omega arith

module _ (P : Plan) (J : List Entry) (K : Derived) (sim : SimNo) (m : Message) (taking : IsTaking P J K sim m) where
  pub its : IsCurrent P (view P J) (length J) K
  its = taking.derived.current refl

  pub got_allowed : IsAllowed IsReady IsAdvance P (view P J) (Got sim m)
  got_allowed = (its.no_fault, subst (λ (o : Option Owed). IsNext IsReady IsAdvance P (view P J) o (Got sim m)) (sym its.none_owed) taking.there)

  pub got_may : MayComeNext P J (Got sim m)
  got_may = record { valid = taking.derived.valid; orderly = taking.derived.orderly.0; allowed = got_allowed }

  pub the_room : HasRoom (core_of P J None)
  the_room = record { going = refl; room = let w : length J ≤ P.entries = taking.derived.within in omega (arith, taking.room) }

  -- ---- a wrong message

  fault_named : (c : Cause) (n : ℕ) → n ≡ length (heard (view P J) sim.0) → fault_in (fault_by sim n c) ≡ Some (fault_of (view P J) sim.0 c)
  fault_named (cause.Wrong number) n is = ap (λ (k : ℕ). Some (WrongMessage sim.0 k number)) is
  fault_named cause.Failed n is = ap (λ (k : ℕ). Some (FailedSim sim.0 k)) is

  pub taken_wrong : (place : Place) (c : Cause) (n : ℕ) → place ≡ place_at ((view P J).open_at sim.0) → wrong P sim.0 place m ≡ Some c → n ≡ length (heard (view P J) sim.0) → (L : Derived) (M : List Entry) → M ≡ J ++ Got sim m ∷ []
      → HasTaken P J sim m (Ok (taken.Fault (fault_by sim n c))) L M
  taken_wrong place c n is w so L M same =
      let fault : CoreFault = fault_by sim n c in
      let named : fault_in (fault_by sim n c) ≡ Some (fault_of (view P J) sim.0 c) = fault_named c n so in
      record {
        derived = subst (λ (N : List Entry). IsDerived P N L (Some (Faulty (fault_by sim n c)))) (sym same)
            (derived_push P J K L (Some (Faulty (fault_by sim n c))) (Got sim m) taking.derived taking.room got_allowed (inl (ap (λ (V : View). V.owed) (noted_wrong P (view P J) sim m place c is w) ∙ its.none_owed)) (no_end (Faulty (fault_by sim n c))));
        ok = inr (inr (inl (record {
          room = the_room;
          named = subst (λ (o : Option Fault). IsSome o) (sym named) refl;
          made = ap (λ (V : View). V.fault) (view_push P J (Got sim m) ∙ noted_wrong P (view P J) sim m place c is w) ∙ sym named;
          ended = ap (λ (N : List Entry). core_of P N (Some (Faulty (fault_by sim n c)))) same;
        })));
        err = tt;
      }

  -- ---- the turn goes on

  module _ (T : OpenTurn) (q : Place) (right : IsRight P (view P J) sim.0 m T (Some q)) where
    item : Item
    item = response P (supply P (view P J).acts) sim.0 T.at T.place m

    after : View
    after = note_right P (view P J) sim.0 m T (Some q)

    noted : note P (view P J) (Got sim m) ≡ note_right P (view P J) sim.0 m T (Some q)
    noted = noted_right P (view P J) sim m T (Some q) right

    owed_is : (note P (view P J) (Got sim m)).owed ≡ Some (record { sim = sim.0; item = response P (supply P (view P J).acts) sim.0 T.at T.place m })
    owed_is = ap (λ (V : View). V.owed) noted

    fault_is : (note P (view P J) (Got sim m)).fault ≡ None
    fault_is = ap (λ (V : View). V.fault) noted ∙ its.no_fault

    late : is_step (response P (supply P (view P J).acts) sim.0 T.at T.place m) ≡ false
    late = (reached_sound IsReady IsAdvance P (λ V s x r. r) (J ++ Got sim m ∷ []) (orderly_push IsReady IsAdvance P J (Got sim m) taking.derived.orderly.0 got_allowed)).later
        (record { sim = sim.0; item = response P (supply P (view P J).acts) sim.0 T.at T.place m }) (ap (λ (V : View). V.owed) (view_push P J (Got sim m)) ∙ owed_is)

    -- there is no room for what is owed
    pub taken_left : length J + 1 ≡ P.entries → (L : Derived) (M : List Entry) → M ≡ J ++ Got sim m ∷ [] → HasTaken P J sim m (Ok (taken.Fault (TooLong P.entries))) L M
    taken_left full L M same = record {
      derived = subst (λ (N : List Entry). IsDerived P N L (Some (Faulty (TooLong P.entries)))) (sym same) (derived_push P J K L (Some (Faulty (TooLong P.entries))) (Got sim m) taking.derived taking.room got_allowed (inr full) (no_end (Faulty (TooLong P.entries))));
      ok = inr (inr (inr (record {
        room = the_room;
        no_fault = ap (λ (V : View). V.fault) (view_push P J (Got sim m)) ∙ fault_is;
        owed = subst (λ (o : Option Owed). IsSome o) (sym (ap (λ (V : View). V.owed) (view_push P J (Got sim m)) ∙ owed_is)) refl;
        named = refl;
        full = one_longer J (Got sim m) ∙ full;
        ended = ap (λ (N : List Entry). core_of P N (Some (Faulty (TooLong P.entries)))) same;
      })));
      err = tt;
    }

    answer_allowed : IsAllowed IsReady IsAdvance P (note P (view P J) (Got sim m)) (Sent sim (response P (supply P (view P J).acts) sim.0 T.at T.place m))
    answer_allowed = (fault_is, subst (λ (o : Option Owed). IsNext IsReady IsAdvance P (note P (view P J) (Got sim m)) o (Sent sim (response P (supply P (view P J).acts) sim.0 T.at T.place m))) (sym owed_is) refl)

    -- what is owed is sent
    pub taken_sent : length J + 1 ≢ P.entries → (L : Derived) (M : List Entry) → M ≡ J ++ Got sim m ∷ [] ++ Sent sim (response P (supply P (view P J).acts) sim.0 T.at T.place m) ∷ []
        → AreSimsOf P (note_sent P (note_right P (view P J) sim.0 m T (Some q)) sim.0 (response P (supply P (view P J).acts) sim.0 T.at T.place m)) (length J + 2) L.sims
        → L.agenda ≡ K.agenda
        → IsStockOf P (note_sent P (note_right P (view P J) sim.0 m T (Some q)) sim.0 (response P (supply P (view P J).acts) sim.0 T.at T.place m)) L.stock
        → HasTaken P J sim m (Ok taken.Send) L M
    taken_sent room L M same sims agenda stock = record {
      derived = subst (λ (N : List Entry). IsDerived P N L None) (sym same)
          (derived_twice P J K L (Got sim m) (Sent sim (response P (supply P (view P J).acts) sim.0 T.at T.place m)) taking.derived (let w : length J ≤ P.entries = taking.derived.within in omega (arith, room, taking.room)) got_allowed answer_allowed refl
          (subst (λ (V : View). IsCurrent P (note_sent P V sim.0 (response P (supply P (view P J).acts) sim.0 T.at T.place m)) (length J + 2) L) (sym noted) (record {
            sims = sims;
            agenda = subst (Mirrors P (note_sent P (note_right P (view P J) sim.0 m T (Some q)) sim.0 (response P (supply P (view P J).acts) sim.0 T.at T.place m))) (sym agenda)
                (told_mirrors P (note_right P (view P J) sim.0 m T (Some q)) K.agenda (went_mirrors P (view P J) K.agenda its.agenda sim.0 m T q right.opened) sim.0 (response P (supply P (view P J).acts) sim.0 T.at T.place m) late);
            stock = stock;
            no_fault = its.no_fault;
            none_owed = refl;
          })));
      ok = record {
        room = the_room;
        no_fault = ap (λ (V : View). V.fault) (view_push P J (Got sim m)) ∙ fault_is;
        item = response P (supply P (view P J).acts) sim.0 T.at T.place m;
        owed = ap (λ (V : View). V.owed) (view_push P J (Got sim m)) ∙ owed_is;
        moved = ap (λ (N : List Entry). core_of P N None) same;
      };
      err = tt;
    }

-- what is owed after a request
module _ (P : Plan) (V : View) (s : ℕ) (T : OpenTurn) (q : Place) (x : Tier) (at : T.at ≡ x) (L : Stock) (m : Message) where
  pub owed_asked : (id : ℕ) (name : List ℕ) (args : List Json) (named : Json) → m ≡ Ask id name args named → (r : Result Item Mem) → IfOk r (λ item. item ≡ response P (supply P V.acts) s x T.place (Ask id name args named))
      → IfOk r (λ item. IsStockOf P (note_sent P (note_right P V s (Ask id name args named) T (Some q)) s item) L) → IfOk r (λ item. (item ≡ response P (supply P V.acts) s T.at T.place m) × IsStockOf P (note_sent P (note_right P V s m T (Some q)) s item) L)
  owed_asked id name args named is (Ok item) owed stock = (
    owed ∙ ap (λ (t : Tier). response P (supply P V.acts) s t T.place (Ask id name args named)) (sym at) ∙ ap (response P (supply P V.acts) s T.at T.place) (sym is),
    subst (λ (n : Message). IsStockOf P (note_sent P (note_right P V s n T (Some q)) s item) L) (sym is) stock,
  )
  owed_asked id name args named is (Err e) owed stock = tt

-- what is owed after a reply
module _ (P : Plan) (V : View) (s : ℕ) (T : OpenTurn) (q : Place) (L : Stock) where
  fetched : (m : Message) → is_ask m ≡ false → response P (supply P V.acts) s T.at T.place m ≡ GetData (wanted P s)
  fetched (Ask id name args named) reply = absurd (true≢false reply)
  fetched (Success id content) reply = refl
  fetched (Failure id text) reply = refl

  pub owed_fetched : (m : Message) → is_ask m ≡ false → (wants : List Want) → wants ≡ wanted P s → (r : Result Item Mem) → IfOk r (λ item. item ≡ GetData wants)
      → ((item : Item) → is_step item ≡ false → item ≡ response P (supply P V.acts) s T.at T.place m → IsStockOf P (note_sent P (note_right P V s m T (Some q)) s item) L)
      → IfOk r (λ item. (item ≡ response P (supply P V.acts) s T.at T.place m) × IsStockOf P (note_sent P (note_right P V s m T (Some q)) s item) L)
  owed_fetched m reply wants are (Ok item) is stays = let same : item ≡ response P (supply P V.acts) s T.at T.place m = is ∙ ap (λ (ws : List Want). GetData ws) are ∙ sym (fetched m reply) in (same, stays item (ap is_step is) same)
  owed_fetched m reply wants are (Err e) is stays = tt
