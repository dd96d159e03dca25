-- The replays of a record that have come to an end are one, and end alike.
use Rattle.std.proofs.Common.{◌≡◌, ℕ, ◌+◌, ◌<◌, Bool, false, cond, List, [], ◌∷◌, length, filter, Option, Some, None, is_some, refl, sym, ap, ◌∙◌, subst, ◌⊎◌, inl, inr, arith, length-append, true≢false}
use Rattle.std.specs.Prelude.{IsSome, option_map}
use Rattle.std.specs.List.{range_with_len}
use Rattle.mk_base.specs.Lists.{IsIn}
use Rattle.mk_base.proofs.Lists.{none_some, in_range}
use Rattle.mk_plan.specs.declared.Plan.{Plan}
use Rattle.mk_plan.specs.declared.Entry.{Entry}
use Rattle.mk_plan.specs.Plans.{sim_count}
use Rattle.mk_plan.specs.Journals as journals
use Rattle.mk_plan.specs.Journals.{Arrival, arrivals, view, View, open_count}
use Rattle.mk_plan.specs.Ready.{IsReady}
use Rattle.mk_plan.specs.Advance.{IsAdvance}
use Rattle.mk_order.proofs.SameEnd.{IsAtEnd, faulty, full, waits_is_end, done_is_end, replay_is_one}
use Rattle.mk_sched.specs.declared.faults.CoreFault.{CoreFault}
use Rattle.mk_sched.specs.declared.faults.CoreFault.TheVariants.{Wrong, Failed, LoopLimit, TooLong}
use Rattle.mk_sched.specs.Answers.{fault_in, IsLastFaulty, SomeReady}
use Rattle.mk_record_read.specs.declared.saved.Asked.{Asked}
use Rattle.mk_record_compare.specs.Differences.{IsOther}
use Rattle.mk_record_compare.proofs.Places.{one_other}
use Rattle.mk_record_replay.specs.declared.replaying.ReplayEnd.{ReplayEnd}
use Rattle.mk_record_replay.specs.declared.replaying.ReplayEnd.TheVariants.{Done, Core, Short, Other}
use Rattle.mk_record_replay.specs.Replays.{IsReplay, IsWhole, IsShort, IsFull, SomeUngiven, EndsBy, IsEndOf, end_with}
use Rattle.mk_record_replay.proofs.Giving.{nobody_at_end}
use Rattle.mk_base.proofs.Items.{some_is}

pub some_of : {X : Type 0} (o : Option X) → IsSome o → (x : X) × (o ≡ Some x)
some_of None h = absurd (true≢false (sym h))
some_of (Some x) h = (x, refl)

-- ---- an end is one at which nothing goes on

pub at_end : (P : Plan) (A : List Arrival) (J : List Entry) (e : ReplayEnd) → IsReplay P A J → EndsBy P A J e → IsAtEnd IsReady IsAdvance P A J
at_end P A J Done r w = done_is_end P A J r.eager w.given w.done
at_end P A J (Core f) r (inl l) = let x = some_of (fault_in f) l.named in faulty x.0 (l.fault ∙ x.1)
at_end P A J (Core f) r (inr t) = full t.full
at_end P A J (Other n) r h = absurd h
at_end P A J (Short n) r s = waits_is_end IsReady IsAdvance P A J r.eager s.given (λ i x ready. s.nobody (i, x, ready))

-- ---- a journal has one end

-- where all were given, nothing is owed and nobody is ready, no more entry is needed
pub nothing_more : (P : Plan) (A : List Arrival) (J : List Entry) → arrivals J ≡ A → (view P J).owed ≡ None → (SomeReady P J → ⊥) → IsSome (view P J).owed ⊎ (SomeReady P J ⊎ SomeUngiven A J) → ⊥
nothing_more P A J given paid nobody (inl owed) = let x = some_of (view P J).owed owed in none_some (sym paid ∙ x.1)
nothing_more P A J given paid nobody (inr (inl ready)) = nobody ready
nothing_more P A J given paid nobody (inr (inr left)) =
    let long : length A ≡ length (arrivals J) + length (left.0 ∷ left.1) = ap length left.2 ∙ length-append (arrivals J) (left.0 ∷ left.1) in
    let same : length (arrivals J) ≡ length A = ap length given in omega (arith, long, same)

-- a fault that is named isn't missing
pub faultless : (P : Plan) (J : List Entry) (f : CoreFault) → (view P J).fault ≡ None → IsLastFaulty P J f → ⊥
faultless P J f none l = let x = some_of (fault_in f) l.named in none_some (sym none ∙ l.fault ∙ x.1)

filter_none : (p : ℕ → Bool) (xs : List ℕ) → ((x : ℕ) → IsIn x xs → p x ≡ false) → filter p xs ≡ []
filter_none p [] h = refl
filter_none p (x ∷ xs) h = ap (λ b. cond b (x ∷ filter p xs) (filter p xs)) (h x (inl refl)) ∙ filter_none p xs (λ y m. h y (inr m))

none_open : (P : Plan) (V : View) → ((i : ℕ) → i < sim_count P → V.open_at i ≡ None) → open_count P V ≡ 0
none_open P V closed = ap length (filter_none (λ i. is_some (V.open_at i)) (range_with_len 0 (sim_count P)) (λ i m. let r = in_range i 0 (sim_count P) m in ap is_some (closed i (omega (arith, r.1)))))

done_or_core : (P : Plan) (A : List Arrival) (J : List Entry) (f : CoreFault) → IsWhole P A J → IsLastFaulty P J f ⊎ IsFull P A J f → ⊥
done_or_core P A J f w (inl l) = faultless P J f w.done.no_fault l
done_or_core P A J f w (inr t) = nothing_more P A J w.given w.paid (nobody_at_end P J w.done) t.more

done_or_short : (P : Plan) (A : List Arrival) (J : List Entry) (n : ℕ) → IsWhole P A J → IsShort P A J n → ⊥
done_or_short P A J n w s = let none : n ≡ 0 = s.count ∙ none_open P (view P J) w.done.closed in let some = s.some in omega (arith, none, some)

core_or_short : (P : Plan) (A : List Arrival) (J : List Entry) (f : CoreFault) (n : ℕ) → IsLastFaulty P J f ⊎ IsFull P A J f → IsShort P A J n → ⊥
core_or_short P A J f n (inl l) s = faultless P J f s.no_fault l
core_or_short P A J f n (inr t) s = nothing_more P A J s.given s.paid s.nobody t.more

-- the fault of a core, by that of its journal
core_of : journals.Fault → CoreFault
core_of (journals.WrongMessage i place cause) = Wrong (record { 0 = i }) place cause
core_of (journals.FailedSim i place) = Failed (record { 0 = i }) place
core_of (journals.LoopLimit i time) = LoopLimit (record { 0 = i }) time

core_is : (f : CoreFault) → IsSome (fault_in f) → option_map core_of (fault_in f) ≡ Some f
unfolding core_of
core_is (Wrong s place cause) h = refl
core_is (Failed s place) h = refl
core_is (LoopLimit s time) h = refl
core_is (TooLong n) h = absurd (true≢false (sym h))

pub one_fault : (P : Plan) (A : List Arrival) (J : List Entry) (f g : CoreFault) → IsLastFaulty P J f ⊎ IsFull P A J f → IsLastFaulty P J g ⊎ IsFull P A J g → f ≡ g
one_fault P A J f g (inl l) (inl m) = some_is f g (sym (core_is f l.named) ∙ ap (option_map core_of) (sym l.fault ∙ m.fault) ∙ core_is g m.named)
one_fault P A J f g (inl l) (inr t) = absurd (faultless P J f t.no_fault l)
one_fault P A J f g (inr t) (inl l) = absurd (faultless P J g t.no_fault l)
one_fault P A J f g (inr t) (inr u) = t.named ∙ sym u.named

pub one_end : (P : Plan) (A : List Arrival) (J : List Entry) (e f : ReplayEnd) → EndsBy P A J e → EndsBy P A J f → e ≡ f
one_end P A J (Other n) f a b = absurd a
one_end P A J Done (Other n) a b = absurd b
one_end P A J (Core f) (Other n) a b = absurd b
one_end P A J (Short m) (Other n) a b = absurd b
one_end P A J Done Done a b = refl
one_end P A J Done (Core g) a b = absurd (done_or_core P A J g a b)
one_end P A J Done (Short n) a b = absurd (done_or_short P A J n a b)
one_end P A J (Core g) Done a b = absurd (done_or_core P A J g b a)
one_end P A J (Core f) (Core g) a b = ap Core (one_fault P A J f g a b)
one_end P A J (Core f) (Short n) a b = absurd (core_or_short P A J f n a b)
one_end P A J (Short m) Done a b = absurd (done_or_short P A J m b a)
one_end P A J (Short m) (Core g) a b = absurd (core_or_short P A J g m b a)
one_end P A J (Short m) (Short n) a b = ap Short (a.count ∙ sym b.count)

-- ---- a record has one replay

pub one_replay : (P : Plan) (A : List Arrival) (J K : List Entry) (e f : ReplayEnd) → IsReplay P A J → EndsBy P A J e → IsReplay P A K → EndsBy P A K f → (J ≡ K) × (e ≡ f)
one_replay P A J K e f r a q b =
    let same : J ≡ K = replay_is_one P A J K r.eager q.eager r.given q.given r.within q.within (at_end P A J e r a) (at_end P A K f q b) in
    (same, one_end P A J e f a (subst (λ (L : List Entry). EndsBy P A L f) (sym same) b))

pub one_record : (P : Plan) (A : List Arrival) (steps : Option (List Asked)) (J K : List Entry) (e f : ReplayEnd) → IsReplay P A J → IsEndOf P A steps J e → IsReplay P A K → IsEndOf P A steps K f → (J ≡ K) × (e ≡ f)
one_record P A steps J K e f r a q b =
    let one = one_replay P A J K a.messages_end b.messages_end r a.ends q b.ends in
    let other : a.other ≡ b.other = one_other A steps K a.other b.other (subst (λ (L : List Entry). IsOther A steps L a.other) one.0 a.compared) b.compared in
    (one.0, a.is ∙ ap (λ z. end_with z a.other) one.1 ∙ ap (end_with b.messages_end) other ∙ sym b.is)
