-- What a round makes of a replay in another order.
use Rattle.std.proofs.Common.{◌≡◌, ℕ, ◌+◌, ◌<◌, ◌≤◌, List, [], ◌∷◌, ◌++◌, length, reverse, true, false, true≢false, Option, Some, None, slice_get, slice_set, refl, sym, ap, ◌∙◌, subst, inl, inr, arith, append_assoc, length-append}
use Rattle.mk_base.proofs.Lists.{append_nil, below_get, filter_map_append}
use Rattle.mk_plan.specs.declared.Plan.{Plan}
use Rattle.mk_plan.specs.declared.Message.{Message}
use Rattle.mk_plan.specs.declared.Entry.{Entry}
use Rattle.mk_plan.specs.declared.Entry.TheVariants.{Got}
use Rattle.mk_plan.specs.Plans.{sim_count}
use Rattle.mk_plan.specs.Journals.{Arrival, arrival_of, arrivals, view, open_count}
use Rattle.mk_sched.specs.declared.faults.CoreFault.{CoreFault}
use Rattle.mk_record_replay.specs.declared.asking.Standstill.TheVariants as standstills
use Rattle.mk_sched.specs.Cores.{CoreState}
use Rattle.mk_record_replay.specs.declared.replaying.ReplayEnd.{ReplayEnd}
use Rattle.mk_record_replay.specs.declared.replaying.ReplayEnd.TheVariants.{Done, Core, Short}
use Rattle.mk_record_replay.specs.declared.ordering.Given.{Given}
use Rattle.mk_record_replay.specs.declared.ordering.Given.TheVariants.{Going, Nothing, Stopped}
use Rattle.mk_record_replay.specs.Runs.{HasReplayed}
use Rattle.mk_record_replay.specs.inner.Loops.{GoesOn, IsOnWay, HasAskedAll, IsCutShort, GivenBy}
use Rattle.mk_record_replay.specs.Orders.{IsInOrder, IsReplayInOrder, SameMessages, after_draw, all_left, candidates, chosen, next_number, next_sim, number_after}
use Rattle.mk_record_replay.specs.inner.Rounds.{AreFit, AreWaiting, GivenMessage, GivenNext, GrownBy, HasEnded, HasGone, HasMoved, IsAllGiven, IsBetween, is_some_left, next_among}
use Rattle.mk_record_replay.proofs.Giving.{stopped_before, ends_done, ends_short, with_rest}
use Rattle.mk_record_replay.proofs.Pushing.{on_way_first}
use Rattle.mk_record_replay.proofs.Waiting.{waiting_given}
use Rattle.mk_record_replay.proofs.Drawing.{order_got, order_more, number_got, next_is, number_is, none_left, chosen_none, chosen_waits, order_first}
use Rattle.mk_record_replay.proofs.WholeOrders.{rest, whole, whole_beyond}
use Rattle.mk_base.proofs.Counts.{below_or_not}

-- what came is a beginning of what each simulator said
comes_of : (P : Plan) (A C : List Arrival) (lists : List (List Message)) → AreWaiting (sim_count P) A C lists → SameMessages A (C ++ rest (sim_count P) A C)
comes_of P A C lists h i = elim (below_or_not i (sim_count P)) [
  | inl low ↦ whole (sim_count P) A C (λ i low. let t = below_get lists i (subst (λ n. i < n) (sym h.all) low) in (reverse t.0, h.each i t.0 t.1)) i low
  | inr far ↦ whole_beyond (sim_count P) A C i far ∙ h.beyond i far
]

-- ---- a message is given

module _ (A : List Arrival) (N : ℕ) (old : CoreState) (waiting : List (List Message)) (x : ℕ) (b : IsBetween A N old waiting x)
    (sim : ℕ) (m : Message) (left less : List Message) (there : slice_get waiting sim ≡ Some left) (parts : left ≡ less ++ m ∷ []) (is_next : Some sim ≡ next_sim old.plan A N old.entries) where
  abbrev C : List Arrival
  C = arrivals old.entries

  abbrev a : Arrival
  a = record { sim = sim; message = m }

  abbrev lists : List (List Message)
  lists = slice_set waiting sim less

  lists_after : AreWaiting (sim_count old.plan) A (C ++ a ∷ []) lists
  lists_after = waiting_given (sim_count old.plan) waiting sim left less m there parts A C b.lists

  order_after : IsInOrder old.plan A N (old.entries ++ Got (record { 0 = sim }) m ∷ [])
  order_after = order_got old.plan A N old.entries (record { 0 = sim }) m b.in_order (sym is_next)

  gone : (new : CoreState) (y : ℕ) → y ≡ after_draw (candidates old.plan A old.entries) (number_after old.plan A N old.entries) → GivenMessage old a Going new → HasGone A N old new lists y
  gone new y drawn h =
      let given : GivenBy old a None new = h.0 in
      let grown : GrownBy old a None new = h.1 in
      let plan : new.plan ≡ old.plan = given.1 in
      let way : IsOnWay old.plan (C ++ a ∷ []) new.entries = given.2 C b.on_way in
      let came : C ++ a ∷ [] ≡ arrivals new.entries = sym way.given in
      let e : new.entries ≡ (old.entries ++ Got (record { 0 = sim }) m ∷ []) ++ grown.0 = grown.1 ∙ sym (append_assoc old.entries (Got (record { 0 = sim }) m ∷ []) grown.0) in
      let drew : y ≡ number_after old.plan A N (old.entries ++ Got (record { 0 = sim }) m ∷ []) = drawn ∙ sym (number_got old.plan A N old.entries (record { 0 = sim }) m) in
      let t = order_more old.plan A N grown.0 (old.entries ++ Got (record { 0 = sim }) m ∷ []) y grown.2 order_after drew in
      record {
        plan = plan;
        between = record {
          on_way = subst (λ (P : Plan). IsOnWay P (arrivals new.entries) new.entries) (sym plan) (subst (λ (l : List Arrival). IsOnWay old.plan l new.entries) came way);
          in_order = subst (λ (P : Plan). IsInOrder P A N new.entries) (sym plan) (subst (IsInOrder old.plan A N) (sym e) t.0);
          drawn = t.1 ∙ ap (number_after old.plan A N) (sym e) ∙ ap (λ (P : Plan). number_after P A N new.entries) (sym plan);
          lists = subst (λ (P : Plan). AreWaiting (sim_count P) A (arrivals new.entries) lists) (sym plan) (subst (λ (l : List Arrival). AreWaiting (sim_count old.plan) A l lists) came lists_after);
        };
      }

  stopped : (f : CoreFault) (new : CoreState) → GivenMessage old a (Stopped f) new → HasEnded A N old (Core f) new
  stopped f new h =
      let more : List Arrival = rest (sim_count old.plan) A (C ++ a ∷ []) in
      let s : IsCutShort old.plan ((C ++ a ∷ []) ++ more) f new = subst (λ (l : List Arrival). IsCutShort old.plan l f new) (with_rest C a more) (h.0 C more b.on_way) in
      record {
        plan = s.plan;
        replay = record {
          order = (C ++ a ∷ []) ++ more;
          same = comes_of old.plan A (C ++ a ∷ []) lists lists_after;
          replay = s.replay;
          ends = s.by;
          in_order = elim h.1 [ inl e ↦ subst (IsInOrder old.plan A N) (sym e) b.in_order | inr e ↦ subst (IsInOrder old.plan A N) (sym e) order_after ];
        };
      }

  pub given_next : (given : Given) (new : CoreState) (y : ℕ) → y ≡ after_draw (candidates old.plan A old.entries) (number_after old.plan A N old.entries) → GivenMessage old a given new → GivenNext A N old given new lists y
  given_next Going new y drawn h = gone new y drawn h
  given_next Nothing new y drawn h = absurd h
  given_next (Stopped f) new y drawn h = stopped f new h

-- the core goes on, and has less room
module _ (old new : CoreState) (a : Arrival) (lists : List (List Message)) where
  has_moved : GivenMessage old a Going new → AreFit (sim_count old.plan) lists → HasMoved old new lists
  has_moved h fit =
      let plan : new.plan.entries ≡ old.plan.entries = ap (λ (P : Plan). P.entries) h.0.1 in
      let grown : GrownBy old a None new = h.1 in
      let long : length new.entries ≡ length old.entries + length (Got (record { 0 = a.sim }) a.message ∷ grown.0) = ap length grown.1 ∙ length-append old.entries (Got (record { 0 = a.sim }) a.message ∷ grown.0) in
      let within : length new.entries ≤ new.plan.entries = grown.3 in
      record { going = h.0.0; plan = h.0.1; fit = subst (λ (P : Plan). AreFit (sim_count P) lists) (sym h.0.1) fit; room = omega (arith, plan, long, within) }

  pub moved_next : (given : Given) → AreFit (sim_count old.plan) lists → GivenMessage old a given new → given ≡ Going → HasMoved old new lists
  moved_next Going fit h e = has_moved h fit
  moved_next Nothing fit h e = absurd h
  moved_next (Stopped f) fit h e = absurd (other e)
    where
      other : Stopped f ≡ Going → ⊥
      other q = cc

-- where a message is left, one is taken
pub nothing_popped : {X : Type 0} (waiting : List (List Message)) (i : ℕ) (left : List Message) → slice_get waiting i ≡ Some left → is_some_left (slice_get waiting i) ≡ true → left ≡ [] → X
nothing_popped waiting i left there some none = absurd (no_left (sym (ap is_some_left (there ∙ ap Some none)) ∙ some))
  where
    no_left : is_some_left (Some []) ≡ true → ⊥
    no_left e = true≢false (sym e)

-- ---- after whoever was ready was asked

module _ (A : List Arrival) (N : ℕ) (old mid : CoreState) (waiting : List (List Message)) (x : ℕ) (b : IsBetween A N old waiting x) (g : GoesOn old mid) where
  same_arrivals : arrivals mid.entries ≡ arrivals old.entries
  same_arrivals = ap arrivals g.longer ∙ filter_map_append arrival_of old.entries g.more ∙ ap (λ (l : List Arrival). arrivals old.entries ++ l) g.sent_only ∙ append_nil (arrivals old.entries)

  order_mid : IsInOrder old.plan A N mid.entries × (x ≡ number_after old.plan A N mid.entries)
  order_mid = subst (λ (K : List Entry). IsInOrder old.plan A N K × (x ≡ number_after old.plan A N K)) (sym g.longer) (order_more old.plan A N g.more old.entries x g.sent_only b.in_order b.drawn)

  pub between_mid : IsBetween A N mid waiting x
  between_mid =
      let way : IsOnWay old.plan (arrivals old.entries) mid.entries = g.on_way (arrivals old.entries) b.on_way in record {
        on_way = subst (λ (P : Plan). IsOnWay P (arrivals mid.entries) mid.entries) (sym g.plan) (subst (λ (l : List Arrival). IsOnWay old.plan l mid.entries) (sym same_arrivals) way);
        in_order = subst (λ (P : Plan). IsInOrder P A N mid.entries) (sym g.plan) order_mid.0;
        drawn = order_mid.1 ∙ ap (λ (P : Plan). number_after P A N mid.entries) (sym g.plan);
        lists = subst (λ (P : Plan). AreWaiting (sim_count P) A (arrivals mid.entries) waiting) (sym g.plan) (subst (λ (l : List Arrival). AreWaiting (sim_count old.plan) A l waiting) (sym same_arrivals) b.lists);
      }

  pub gone_before : (new : CoreState) (w : List (List Message)) (y : ℕ) → HasGone A N mid new w y → HasGone A N old new w y
  gone_before new w y h = record { plan = h.plan ∙ g.plan; between = h.between }

  pub ended_before : (end : ReplayEnd) (new : CoreState) → HasEnded A N mid end new → HasEnded A N old end new
  ended_before end new h = record { plan = h.plan ∙ g.plan; replay = subst (λ (P : Plan). IsReplayInOrder P A N new.entries end) g.plan h.replay }

  -- the replay of what came so far has come to its end, and all came
  all_came : (end : ReplayEnd) (new : CoreState) → HasReplayed old.plan (arrivals old.entries) end mid → IsAllGiven A mid new → HasEnded A N old end new
  all_came end new run given =
      let same : SameMessages A (arrivals old.entries) = subst (λ (l : List Arrival). SameMessages A l) same_arrivals given.all in
      subst (λ (c : CoreState). HasEnded A N old end c) (sym given.same) (record {
        plan = g.plan;
        replay = record { order = arrivals old.entries; same = same; replay = run.replay; ends = run.ends; in_order = order_mid.0 };
      })

module _ (A : List Arrival) (N : ℕ) (old mid : CoreState) (waiting : List (List Message)) (x : ℕ) (b : IsBetween A N old waiting x) where
  pub fault_ends : (f : CoreFault) → HasAskedAll old (standstills.Full f) mid → HasEnded A N old (Core f) mid
  fault_ends f s =
      let more : List Arrival = rest (sim_count old.plan) A (arrivals old.entries) in
      let t : IsCutShort old.plan (arrivals old.entries ++ more) f mid = stopped_before old mid f (arrivals old.entries) more s b.on_way in record {
        plan = t.plan;
        replay = record {
          order = arrivals old.entries ++ more;
          same = comes_of old.plan A (arrivals old.entries) waiting b.lists;
          replay = t.replay;
          ends = t.by;
          in_order = (order_mid A N old mid waiting x b s.goes).0;
        };
      }

  pub done_ends : (new : CoreState) → HasAskedAll old standstills.Over mid → IsAllGiven A mid new → HasEnded A N old Done new
  done_ends new s given = all_came A N old mid waiting x b s.goes Done new (ends_done old mid (arrivals old.entries) s b.on_way) given

  pub short_ends : (n : ℕ) (new : CoreState) → HasAskedAll old standstills.Waiting mid → n ≡ open_count new.plan (view new.plan new.entries) → IsAllGiven A mid new → HasEnded A N old (Short n) new
  short_ends n new s e given = all_came A N old mid waiting x b s.goes (Short n) new
      (ends_short old mid n (arrivals old.entries) s (subst (λ (c : CoreState). n ≡ open_count c.plan (view c.plan c.entries)) given.same e) b.on_way) given

-- ---- whose message is next, by the code

module _ (core : CoreState) (slice waiting : List (List Message)) (x : ℕ) (same : slice ≡ waiting) where
  abbrev picked : List (List Message) → Option ℕ
  picked W = chosen (next_number x) (next_among false core W (length W)) (next_among true core W (length W))

  pub picked_there : (o : Option ℕ) (s : ℕ) → o ≡ picked slice → o ≡ Some s → (s < length waiting) × (is_some_left (slice_get waiting s) ≡ true)
  picked_there o s e is = chosen_waits core waiting (next_number x) s (sym is ∙ e ∙ ap picked same)

  module _ (A : List Arrival) (N : ℕ) (b : IsBetween A N core waiting x) where
    pub picked_next : (o : Option ℕ) → o ≡ picked slice → o ≡ next_sim core.plan A N core.entries
    picked_next o e = next_is A N core waiting x b o (e ∙ ap picked same)

    pub number_next : (y : ℕ) → y ≡ after_draw (next_among false core slice (length slice)) x → y ≡ after_draw (candidates core.plan A core.entries) (number_after core.plan A N core.entries)
    number_next y e = number_is A N core waiting x b y (e ∙ ap (λ (W : List (List Message)). after_draw (next_among false core W (length W)) x) same)

    pub all_given : (o : Option ℕ) → o ≡ picked slice → o ≡ None → IsAllGiven A core core
    all_given o e is = record {
      same = refl;
      all = none_left A core.plan core.entries waiting b.lists (chosen_none (next_number (number_after core.plan A N core.entries)) (candidates core.plan A core.entries) (all_left core.plan A core.entries) (sym (picked_next o e) ∙ is));
    }

-- ---- before any message

pub between_first : (P : Plan) (A : List Arrival) (N : ℕ) (core : CoreState) (lists : List (List Message)) → core ≡ record { plan = P; entries = []; ended = None } → AreWaiting (sim_count P) A [] lists → IsBetween A N core lists N
between_first P A N core lists new waits = subst (λ (c : CoreState). IsBetween A N c lists N) (sym new) (record { on_way = on_way_first P; in_order = order_first P A N; drawn = refl; lists = waits })

-- a round moves a core on, where it was asked first
pub moved_before : (old mid new : CoreState) (waiting : List (List Message)) → GoesOn old mid → HasMoved mid new waiting → HasMoved old new waiting
moved_before old mid new waiting goes moved = record {
  going = moved.going;
  plan = moved.plan ∙ goes.plan;
  fit = moved.fit;
  room = let limit : mid.plan.entries ≡ old.plan.entries = ap (λ (P : Plan). P.entries) goes.plan in let count : length mid.entries ≡ length old.entries + length goes.more = ap length goes.longer ∙ length-append old.entries goes.more in omega (arith, moved.room);
}
