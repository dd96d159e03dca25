-- Worked examples of journals: when a simulator behind a connection is ready, what its max_advance
-- is, what that promises, and a whole run that is eager and finished.
use Rattle.std.proofs.Common.{◌≡◌, ℕ, zero, suc, pos, ◌≤ℤ◌, ◌<ℤ◌, List, [], ◌∷◌, ◌++◌, fold, Option, Some, None, refl, sym, ap, ◌∙◌, subst, codes, true, false, true≢false, inl, inr, arith}
use Rattle.std.specs.Prelude.{⊤}
use Rattle.std.proofs.lemmas.Int.{ints}
use Rattle.mk_base.specs.declared.SimKind.TheVariants.{TimeBased, EventBased}
use Rattle.mk_base.specs.declared.SimNo.{SimNo}
use Rattle.mk_base.specs.declared.tier.Tier.{Tier}
use Rattle.mk_base.specs.declared.tier.Via.{Via}
use Rattle.mk_base.specs.declared.tier.Via.TheVariants.{Plain, Shift}
use Rattle.mk_base.specs.declared.json.Json as j
use Rattle.mk_base.specs.declared.json.Json.{Json}
use Rattle.mk_base.specs.Tiers.{moment, delayed, up_to}
use Rattle.mk_base.proofs.Lists.{some_same, none_some}
use Rattle.mk_base.proofs.OnTrees.{trees_compute}
use Rattle.mk_plan.specs.declared.Plan.{Plan}
use Rattle.mk_plan.specs.declared.Conn.{Conn}
use Rattle.mk_plan.specs.declared.PlanSim.{PlanSim}
use Rattle.mk_plan.specs.declared.Message.{Message}
use Rattle.mk_plan.specs.declared.Message.TheVariants.{Success}
use Rattle.mk_plan.specs.declared.Item.TheVariants.{Step, GetData}
use Rattle.mk_plan.specs.declared.Entry.{Entry}
use Rattle.mk_plan.specs.declared.Entry.TheVariants.{Sent, Got}
use Rattle.mk_plan.specs.Plans.{Link}
use Rattle.mk_plan.specs.Turns.{wanted}
use Rattle.mk_plan.specs.Sequential.{Messages}
use Rattle.mk_plan.specs.Journals.{OpenTurn, View, note, empty_view, view}
use Rattle.mk_plan.specs.Walks.{link, Reach, from_start, along}
use Rattle.mk_plan.specs.Ready.{start, IsReady}
use Rattle.mk_plan.specs.Advance.{IsOuter, IsComing, IsAdvance, bounded, unbounded, IsPromised}
use Rattle.mk_plan.specs.Orderly.{IsOrderly, IsEager}
use Rattle.mk_plan.specs.Agreement.{IsFinished}
use Rattle.mk_plan.proofs.Rows.{number, one_sim, the_first, value_and_time}

-- the output of entity 0
abbrev out : ℕ → Json
out n = j.Object ((codes "0", j.Object ((codes "out", number n) ∷ [])) ∷ [])

abbrev the_second : SimNo
the_second = record { 0 = 1 }

-- a run of these simulators, each with one entity, with these connections
abbrev run_of : ℕ → List PlanSim → List Conn → Plan
run_of until sims conns = record {
  until = pos until;
  loops = 100;
  entries = 2000000;
  sims = sims;
  models = record { sim = the_first; name = codes "M"; attrs = codes "in" ∷ codes "out" ∷ []; any_inputs = false } ∷ record { sim = the_second; name = codes "M"; attrs = codes "in" ∷ codes "out" ∷ []; any_inputs = false } ∷ [];
  entities = record { model = 0; eid = codes "0"; related = [] } ∷ record { model = 1; eid = codes "0"; related = [] } ∷ [];
  conns = conns;
  asyncs = [];
}

-- ---- a counter S that steps by ten triggers a relay R, which has an event at 0

abbrev relay : Plan
relay = run_of 20
    (record { id = codes "S-0"; kind = TimeBased; first_id = 3; rank = 0; initial = [] } ∷ record { id = codes "R-0"; kind = EventBased; first_id = 3; rank = 1; initial = pos 0 ∷ [] } ∷ [])
    (record { from = 0; from_attr = codes "out"; to = 1; to_attr = codes "in"; via = Plain; persistent = true; triggering = true; initial = None } ∷ [])

-- S takes its turn at 0, and is asked for that at 10
abbrev counted : List Entry
counted =
    Sent the_first (Step (moment (pos 0)) [] (pos 20)) ∷ Got the_first (Success 3 (number 10))
    ∷ Sent the_first (GetData (wanted relay 0)) ∷ Got the_first (Success 4 (out 0))
    ∷ Sent the_first (Step (moment (pos 10)) [] (pos 20)) ∷ []

-- then R takes its turn at 0, and S that at 10
abbrev relayed : List Entry
relayed = counted ++ (
    Sent the_second (Step (moment (pos 0)) (record { eid = codes "0"; attr = codes "in"; source = codes "S-0.0"; value = codes "0" } ∷ []) (pos 9)) ∷ Got the_second (Success 3 j.Null)
    ∷ Got the_first (Success 5 (number 20)) ∷ Sent the_first (GetData (wanted relay 0)) ∷ Got the_first (Success 6 (out 10)) ∷ [])

-- a walk that ends in S is no more than its start
only_start : (Z : ℕ → Type 0) (i : ℕ) (y : Tier) → Reach relay (start relay (view relay counted)) Z i y → i ≡ 0 → y ≡ moment (pos 10)
unfolding trees_compute
only_start Z i y (from_start _ _ outside is) e = some_same (sym is ∙ ap (start relay (view relay counted)) e)
only_start Z i z (along from via _ y _ walk edge outside is) e = elim edge [ inl q ↦ absurd (let t : i ≡ 1 = ap (λ (l : Link). l.to) q in omega (arith, e, t)) | inr n ↦ absurd n ]

not_the_second : ◌≡◌ {A = ℕ} 0 1 → ⊥
not_the_second e = omega (arith, e)

-- what is still to come over the one connection comes at 10
outer_at_ten : (from : ℕ) (via : Via) (y : Tier) (Z : ℕ → Type 0) → link from via 1 ≡ link 0 Plain 1 → Reach relay (start relay (view relay counted)) Z from y → delayed y via ≡ moment (pos 10)
outer_at_ten from via y Z q walk = (λ i. delayed (only_start Z from y walk (ap (λ (l : Link). l.from) q) i) (ap (λ (l : Link). l.via) q i))

pub relay_ready : IsReady relay (view relay counted) 1 (moment (pos 0))
unfolding trees_compute
relay_ready = record {
  closed = refl;
  at_pending = refl;
  clear = λ from via y l walk. elim l [ inl q ↦ ap (λ t. up_to t (moment (pos 0))) (outer_at_ten from via y _ q walk) | inr n ↦ absurd n ];
}

pub up_to_nine : IsAdvance relay (view relay counted) 1 (moment (pos 0)) (pos 9)
unfolding trees_compute
up_to_nine = bounded (moment (pos 10)) (pos 9) (inr (record { from = 0; via = Plain; at = moment (pos 10); edge = inl refl; walk = from_start 0 (moment (pos 10)) not_the_second refl; is = refl })) least refl
  where
    at_ten : (e : Tier) → e ≡ moment (pos 10) → pos 10 ≤ℤ e.time
    at_ten e q = subst (λ (t : Tier). pos 10 ≤ℤ t.time) (sym q) (omega (arith, ints))

    least : (e : Tier) → IsComing relay (view relay counted) 1 (moment (pos 0)) e → pos 10 ≤ℤ e.time
    least e (inl (inl q, later)) = absurd (true≢false (sym (ap (λ t. up_to t (moment (pos 0))) q) ∙ later))
    least e (inl (inr n, later)) = absurd n
    least e (inr o) = elim o.edge [ inl q ↦ at_ten e (o.is ∙ outer_at_ten o.from o.via o.at _ q o.walk) | inr n ↦ absurd n ]

-- S has no further turn, and nothing known comes after 10
pub up_to_the_end : IsAdvance relay (view relay relayed) 1 (moment (pos 10)) (pos 20)
unfolding trees_compute
up_to_the_end = unbounded (pos 20) nothing refl
  where
    no_start : (Z : ℕ → Type 0) (i : ℕ) (y : Tier) → Reach relay (start relay (view relay relayed)) Z i y → i ≡ 0 → ⊥
    no_start Z i y (from_start _ _ outside is) e = none_some (sym (ap (start relay (view relay relayed)) e) ∙ is)
    no_start Z i z (along from via _ y _ walk edge outside is) e = elim edge [ inl q ↦ (let t : i ≡ 1 = ap (λ (l : Link). l.to) q in omega (arith, e, t)) | inr n ↦ n ]

    nothing : (d : Tier) → IsComing relay (view relay relayed) 1 (moment (pos 10)) d → ⊥
    nothing d (inl (inl q, later)) = true≢false (sym (ap (λ t. up_to t (moment (pos 10))) q) ∙ later)
    nothing d (inl (inr (inl q), later)) = true≢false (sym (ap (λ t. up_to t (moment (pos 10))) q) ∙ later)
    nothing d (inl (inr (inr n), later)) = n
    nothing d (inr o) = elim o.edge [ inl q ↦ no_start _ o.from o.at o.walk (ap (λ (l : Link). l.from) q) | inr n ↦ n ]

abbrev relay_messages : Messages
relay_messages zero = Success 3 (number 10) ∷ Success 4 (out 0) ∷ Success 5 (number 20) ∷ Success 6 (out 10) ∷ []
relay_messages _ = Success 3 j.Null ∷ Success 4 j.Null ∷ []

-- R is triggered at 0 and at 10
pub relay_promised : IsPromised relay relay_messages 1 (pos 0) (pos 9)
unfolding trees_compute
relay_promised d (inl q) later = absurd (let t : pos 0 <ℤ pos 0 = subst (λ (e : Tier). pos 0 <ℤ e.time) q later in grind (arith, ints))
relay_promised d (inr (inl q)) later = subst (λ (e : Tier). pos 9 <ℤ e.time) (sym q) (omega (arith, ints))
relay_promised d (inr (inr n)) later = absurd n

-- ---- a simulator with events at 0 and 1 triggers itself over a time shift

abbrev feeder : Plan
feeder = run_of 10
    (record { id = codes "S-0"; kind = EventBased; first_id = 3; rank = 0; initial = pos 0 ∷ pos 1 ∷ [] } ∷ [])
    (record { from = 0; from_attr = codes "out"; to = 0; to_attr = codes "in"; via = Shift 1; persistent = false; triggering = true; initial = None } ∷ [])

-- its turn at 0, whose output is made at 3
abbrev fed_once : List Entry
fed_once =
    Sent the_first (Step (moment (pos 0)) [] (pos 10)) ∷ Got the_first (Success 3 j.Null)
    ∷ Sent the_first (GetData (wanted feeder 0)) ∷ Got the_first (Success 4 (value_and_time 5 3)) ∷ []

-- then that at 1, without output
abbrev fed_twice : List Entry
fed_twice = fed_once ++ (
    Sent the_first (Step (moment (pos 1)) [] (pos 3)) ∷ Got the_first (Success 5 j.Null)
    ∷ Sent the_first (GetData (wanted feeder 0)) ∷ Got the_first (Success 6 (j.Object [])) ∷ [])

-- no walk ends in a simulator that it may not touch
ends_outside : (P : Plan) (starts : ℕ → Option Tier) (Z : ℕ → Type 0) (i : ℕ) (y : Tier) → Reach P starts Z i y → Z i → ⊥
ends_outside P starts Z i y (from_start _ _ outside is) = outside
ends_outside P starts Z i z (along from via _ y _ walk edge outside is) = outside

not_from_itself : (V : View) (d : Tier) → IsOuter feeder (start feeder V) 0 d → ⊥
not_from_itself V d o = elim o.edge [ inl q ↦ ends_outside feeder (start feeder V) (λ i. i ≡ 0) o.from o.at o.walk (ap (λ (l : Link). l.from) q) | inr n ↦ n ]

pub fed_at_first : IsAdvance feeder (view feeder []) 0 (moment (pos 0)) (pos 10)
unfolding trees_compute
fed_at_first = unbounded (pos 10) nothing refl
  where
    nothing : (d : Tier) → IsComing feeder (view feeder []) 0 (moment (pos 0)) d → ⊥
    nothing d (inl (n, later)) = n
    nothing d (inr o) = not_from_itself (view feeder []) d o

pub fed_later : IsAdvance feeder (view feeder fed_once) 0 (moment (pos 1)) (pos 3)
unfolding trees_compute
fed_later = bounded (moment (pos 4)) (pos 3) (inl (inl refl, refl)) least refl
  where
    least : (e : Tier) → IsComing feeder (view feeder fed_once) 0 (moment (pos 1)) e → pos 4 ≤ℤ e.time
    least e (inl (inl q, later)) = subst (λ (t : Tier). pos 4 ≤ℤ t.time) (sym q) (omega (arith, ints))
    least e (inl (inr n, later)) = absurd n
    least e (inr o) = absurd (not_from_itself (view feeder fed_once) e o)

pub fed_at_last : IsAdvance feeder (view feeder fed_twice) 0 (moment (pos 4)) (pos 10)
unfolding trees_compute
fed_at_last = unbounded (pos 10) nothing refl
  where
    nothing : (d : Tier) → IsComing feeder (view feeder fed_twice) 0 (moment (pos 4)) d → ⊥
    nothing d (inl (inl q, later)) = true≢false (sym (ap (λ t. up_to t (moment (pos 4))) q) ∙ later)
    nothing d (inl (inr n, later)) = n
    nothing d (inr o) = not_from_itself (view feeder fed_twice) d o

-- ---- a whole run of one simulator

abbrev whole : List Entry
whole =
    Sent the_first (Step (moment (pos 0)) [] (pos 3)) ∷ Got the_first (Success 3 (number 1))
    ∷ Sent the_first (Step (moment (pos 1)) [] (pos 3)) ∷ Got the_first (Success 4 (number 2))
    ∷ Sent the_first (Step (moment (pos 2)) [] (pos 3)) ∷ Got the_first (Success 5 (number 3)) ∷ []

abbrev one_turn : List Entry
one_turn = Sent the_first (Step (moment (pos 0)) [] (pos 3)) ∷ Got the_first (Success 3 (number 1)) ∷ []

abbrev two_turns : List Entry
two_turns = one_turn ++ (Sent the_first (Step (moment (pos 1)) [] (pos 3)) ∷ Got the_first (Success 4 (number 2)) ∷ [])

alone : (V : View) (x d : Tier) → IsComing (one_sim 100) V 0 x d → ⊥
alone V x d (inl a) = a.0
alone V x d (inr o) = o.edge

pub whole_orderly : IsOrderly (one_sim 100) whole
unfolding trees_compute
whole_orderly = (
  (
    (refl, ((record { closed = refl; at_pending = refl; clear = λ from via y l walk. absurd l }, λ i y h. absurd (omega arith)), refl, unbounded (pos 3) (alone empty_view (moment (pos 0))) refl)),
    (
      (refl, omega arith),
      (
        (refl, ((record { closed = refl; at_pending = refl; clear = λ from via y l walk. absurd l }, λ i y h. absurd (omega arith)), refl, unbounded (pos 3) (alone (view (one_sim 100) one_turn) (moment (pos 1))) refl)),
        (
          (refl, omega arith),
          (
            (refl, ((record { closed = refl; at_pending = refl; clear = λ from via y l walk. absurd l }, λ i y h. absurd (omega arith)), refl, unbounded (pos 3) (alone (view (one_sim 100) two_turns) (moment (pos 2))) refl)),
            ((refl, omega arith), tt),
          ),
        ),
      ),
    ),
  ),
  inl refl,
)

-- at each message of the entries, from the view on, nobody is ready
abbrev AtMessages : Plan → View → List Entry → Type 0
AtMessages P V [] = ⊤
AtMessages P V (Sent s item ∷ es) = AtMessages P (note P V (Sent s item)) es
AtMessages P V (Got s m ∷ es) = ((i : ℕ) (x : Tier) → IsReady P V i x → ⊥) × AtMessages P (note P V (Got s m)) es

first_same : {X : Type 0} {x y : X} {xs ys : List X} → x ∷ xs ≡ y ∷ ys → x ≡ y
first_same e = cc

rest_same : {X : Type 0} {x y : X} {xs ys : List X} → x ∷ xs ≡ y ∷ ys → xs ≡ ys
rest_same e = cc

at_message : (P : Plan) (V : View) (J H : List Entry) (s : SimNo) (m : Message) (more : List Entry) → AtMessages P V J → J ≡ H ++ Got s m ∷ more → (i : ℕ) (x : Tier) → IsReady P (fold (note P) V H) i x → ⊥
at_message P V [] [] s m more all is i x r = cc
at_message P V [] (h ∷ H) s m more all is i x r = cc
at_message P V (Sent a b ∷ es) [] s m more all is i x r = let e : Sent a b ≡ Got s m = first_same is in cc
at_message P V (Got a b ∷ es) [] s m more all is i x r = all.0 i x r
at_message P V (Sent a b ∷ es) (h ∷ H) s m more all is i x r =
    at_message P (note P V (Sent a b)) es H s m more all (rest_same is) i x (subst (λ g. IsReady P (fold (note P) (note P V g) H) i x) (sym (first_same is)) r)
at_message P V (Got a b ∷ es) (h ∷ H) s m more all is i x r =
    at_message P (note P V (Got a b)) es H s m more all.1 (rest_same is) i x (subst (λ g. IsReady P (fold (note P) (note P V g) H) i x) (sym (first_same is)) r)

busy : (V : View) (T : OpenTurn) → V.open_at 0 ≡ Some T → (i : ℕ) (x : Tier) → IsReady (one_sim 100) V i x → ⊥
busy V T open_turn zero x r = none_some (sym r.closed ∙ open_turn)
busy V T open_turn (suc i) x r = none_some r.at_pending

pub whole_eager : IsEager (one_sim 100) whole
unfolding trees_compute
whole_eager = (whole_orderly, λ H s m more is. at_message (one_sim 100) empty_view whole H s m more (busy _ _ refl, (busy _ _ refl, (busy _ _ refl, tt))) is)

pub whole_finished : IsFinished (one_sim 100) whole
unfolding trees_compute
whole_finished zero low = record { sent = refl; used = refl; ended = refl }
whole_finished (suc i) low = absurd (omega arith)
