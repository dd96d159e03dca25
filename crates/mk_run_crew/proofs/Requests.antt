-- The requests of a handshake, one after another, and the answers to them.
use Rattle.std.proofs.Common.{◌≡◌, ℕ, zero, suc, ◌==◌, true, false, List, [], ◌∷◌, ◌++◌, length, take, drop, map, filter_map, fold, Option, Some, None, slice_get, refl, sym, ap, ◌∙◌, subst, ◌⊎◌, inl, inr, if◌then◌else◌}
use Rattle.std.specs.Prelude.{option_map}
use Rattle.std.specs.List.{enumerate_from}
use Rattle.mk_base.specs.Lists.{IsIn}
use Rattle.mk_base.proofs.Lists.{none_some, some_same, append_nil, at_in, filter_map_append, in_either, in_map}
use Rattle.mk_plan.specs.declared.Call.{Call}
use Rattle.mk_plan.specs.declared.Call.TheVariants.{Init, Create, SetupDone}
use Rattle.mk_plan.specs.declared.Message.{Message}
use Rattle.mk_scenario.specs.declared.parts.Group.{Group}
use Rattle.mk_scenario.specs.declared.parts.SimPart.{SimPart}
use Rattle.mk_scenario.specs.declared.parts.Scenario.{Scenario}
use Rattle.mk_local.specs.declared.turn.Turn.{Turn}
use Rattle.mk_local.specs.Calls.{after_call, IsCallReplied}
use Rattle.mk_local.specs.Simulators.{Simulator}
use Rattle.mk_run_laws.specs.Handshake.{Request, setup_requests, call_to, is_within}
use Rattle.mk_run_local.specs.Made.{first_at}
use Rattle.mk_run_crew.specs.Answers.{answers_to, sim_after, IsKindAnswer, AreKindAnswers}
use Rattle.mk_run_laws.proofs.Greeting.{one_here, one_away}

-- ---- lists

-- the list is cut before and behind the item at this place
pub cut_at : {X : Type 0} (k : ℕ) (x : X) (xs : List X) → slice_get xs k ≡ Some x → (take (suc k) xs ≡ take k xs ++ x ∷ []) × (drop k xs ≡ x ∷ drop (suc k) xs)
cut_at k x [] e = absurd (none_some e)
cut_at {X} zero x (y ∷ ys) e = (ap (λ (z : X). z ∷ []) (some_same e), ap (λ (z : X). z ∷ ys) (some_same e))
cut_at {X} (suc k) x (y ∷ ys) e = let t = cut_at k x ys e in (ap (λ (l : List X). y ∷ l) t.0, t.1)

pub both_parts : {X : Type 0} (k : ℕ) (xs : List X) → take k xs ++ drop k xs ≡ xs
both_parts zero xs = refl
both_parts (suc k) [] = refl
both_parts {X} (suc k) (x ∷ xs) = ap (λ (l : List X). x ∷ l) (both_parts k xs)

pub none_dropped : {X : Type 0} (xs : List X) → drop (length xs) xs ≡ []
none_dropped [] = refl
none_dropped (x ∷ xs) = none_dropped xs

-- an item of a list that got one more
pub get_pushed : {X : Type 0} (xs : List X) (y x : X) (k : ℕ) → slice_get (xs ++ y ∷ []) k ≡ Some x → (slice_get xs k ≡ Some x) ⊎ ((k ≡ length xs) × (y ≡ x))
get_pushed [] y x zero e = inr (refl, some_same e)
get_pushed [] y x (suc k) e = absurd (none_some e)
get_pushed (z ∷ xs) y x zero e = inl e
get_pushed (z ∷ xs) y x (suc k) e = elim (get_pushed xs y x k e) [ inl q ↦ inl q | inr t ↦ inr (ap suc t.0, t.1) ]

pub count_pushed : {X : Type 0} (xs : List X) (y : X) → length (xs ++ y ∷ []) ≡ suc (length xs)
count_pushed [] y = refl
count_pushed (x ∷ xs) y = ap suc (count_pushed xs y)

fold_pushed : {X Y : Type 0} (f : X → Y → X) (x : X) (ys : List Y) (y : Y) → fold f x (ys ++ y ∷ []) ≡ f (fold f x ys) y
fold_pushed f x [] y = refl
fold_pushed f x (z ∷ ys) y = fold_pushed f (f x z) ys y

-- ---- what every request is

-- what holds of the requests for all simulators and groups holds of each
pub of_each_request : (Q : Request → Type 0) (S : Scenario) → ((n : ℕ × SimPart) → IsIn n (enumerate_from 0 S.sims) → Q (record { sim = n.0; call = Init n.1.id n.1.params }))
    → ((g : Group) → IsIn g S.groups → Q (record { sim = g.sim.0; call = Create g.num g.model g.params })) → ((n : ℕ × SimPart) → IsIn n (enumerate_from 0 S.sims) → Q (record { sim = n.0; call = SetupDone }))
    → (k : ℕ) (r : Request) → slice_get (setup_requests S) k ≡ Some r → Q r
of_each_request Q S inits creates setups k r e = elim (in_either r inits_creates dones (at_in r (setup_requests S) k e)) [
  | inl h ↦ elim (in_either r (map init_of (enumerate_from 0 S.sims)) (map create_of S.groups) h) [
    | inl i ↦ let t = in_map init_of r (enumerate_from 0 S.sims) i in subst Q (sym t.2) (inits t.0 t.1)
    | inr c ↦ let t = in_map create_of r S.groups c in subst Q (sym t.2) (creates t.0 t.1)
  ]
  | inr d ↦ let t = in_map done_of r (enumerate_from 0 S.sims) d in subst Q (sym t.2) (setups t.0 t.1)
]
  where
    init_of : ℕ × SimPart → Request
    init_of n = record { sim = n.0; call = Init n.1.id n.1.params }

    create_of : Group → Request
    create_of g = record { sim = g.sim.0; call = Create g.num g.model g.params }

    done_of : ℕ × SimPart → Request
    done_of n = record { sim = n.0; call = SetupDone }

    inits_creates : List Request
    inits_creates = map init_of (enumerate_from 0 S.sims) ++ map create_of S.groups

    dones : List Request
    dones = map done_of (enumerate_from 0 S.sims)

-- each request gets a reply
pub are_replied : (S : Scenario) (k : ℕ) (r : Request) → slice_get (setup_requests S) k ≡ Some r → IsCallReplied r.call
are_replied S = of_each_request (λ r. IsCallReplied r.call) S (λ n there. tt) (λ g there. tt) (λ n there. tt)

-- ---- answers

pub answers_none : (i : ℕ) (requests : List Request) → answers_to i requests [] ≡ []
answers_none i [] = refl
answers_none i (r ∷ requests) = refl

-- one answer more
pub answers_pushed : (i : ℕ) (requests : List Request) (answers : List Message) (r : Request) (m : Message) → slice_get requests (length answers) ≡ Some r → answers_to i requests (answers ++ m ∷ []) ≡ answers_to i requests answers ++ (if r.sim == i then m ∷ [] else [])
answers_pushed i [] answers r m e = absurd (none_some e)
answers_pushed i (q ∷ requests) [] r m e = subst (λ (x : Request). answers_to i (q ∷ requests) (m ∷ []) ≡ (if x.sim == i then m ∷ [] else [])) (some_same e)
    (ap (λ (l : List Message). if q.sim == i then m ∷ l else l) (answers_none i requests))
answers_pushed i (q ∷ requests) (a ∷ answers) r m e =
    elim (q.sim == i) as (λ b. (if b then a ∷ answers_to i requests (answers ++ m ∷ []) else answers_to i requests (answers ++ m ∷ [])) ≡ (if b then a ∷ answers_to i requests answers else answers_to i requests answers) ++ (if r.sim == i then m ∷ [] else [])) [
      | true ↦ ap (λ (l : List Message). a ∷ l) (answers_pushed i requests answers r m e)
      | false ↦ answers_pushed i requests answers r m e
    ]

-- one answer more of a kind, if it is one's within the program
pub kinds_pushed : (rows : List Turn) (S : Scenario) (answers : List Message) (r : Request) (m : Message) → AreKindAnswers rows S answers → slice_get (setup_requests S) (length answers) ≡ Some r
    → (is_within S r.sim ≡ true → IsKindAnswer rows S (length answers) r m) → AreKindAnswers rows S (answers ++ m ∷ [])
kinds_pushed rows S answers r m all there now k q n asked got within = elim (get_pushed answers m n k got) [
  | inl e ↦ all k q n asked e within
  | inr t ↦
      let same : r ≡ q = some_same (sym there ∙ ap (slice_get (setup_requests S)) (sym t.0) ∙ asked) in
      subst (λ (x : ℕ). IsKindAnswer rows S x q n) (sym t.0) (subst (λ (x : Message). IsKindAnswer rows S (length answers) q x) t.1 (subst (λ (x : Request). IsKindAnswer rows S (length answers) x m) same (now (ap (λ (x : Request). is_within S x.sim) same ∙ within))))
]

-- ---- simulators within the program

calls_here : (k : ℕ) (r : Request) (requests : List Request) → slice_get requests k ≡ Some r → filter_map (call_to r.sim) (take (suc k) requests) ≡ filter_map (call_to r.sim) (take k requests) ++ r.call ∷ []
calls_here k r requests e =
    ap (filter_map (call_to r.sim)) (cut_at k r requests e).0 ∙ filter_map_append (call_to r.sim) (take k requests) (r ∷ []) ∙ ap (λ (cs : List Call). filter_map (call_to r.sim) (take k requests) ++ cs) (one_here r)

calls_away : (k : ℕ) (r : Request) (i : ℕ) (requests : List Request) → slice_get requests k ≡ Some r → (i ≡ r.sim → ⊥) → filter_map (call_to i) (take (suc k) requests) ≡ filter_map (call_to i) (take k requests)
calls_away k r i requests e apart =
    ap (filter_map (call_to i)) (cut_at k r requests e).0 ∙ filter_map_append (call_to i) (take k requests) (r ∷ []) ∙ ap (λ (cs : List Call). filter_map (call_to i) (take k requests) ++ cs) (one_away r i apart) ∙ append_nil (filter_map (call_to i) (take k requests))

came_on : (o : Option Simulator) (calls : List Call) (c : Call) (L : Simulator) → option_map (λ (M : Simulator). fold after_call M calls) o ≡ Some L → option_map (λ (M : Simulator). fold after_call M (calls ++ c ∷ [])) o ≡ Some (after_call L c)
came_on None calls c L e = absurd (none_some e)
came_on (Some M) calls c L e = ap Some (fold_pushed after_call M calls c ∙ ap (λ (N : Simulator). after_call N c) (some_same e))

-- a request more to the simulator
pub after_one_more : (rows : List Turn) (S : Scenario) (k : ℕ) (r : Request) (L : Simulator) → slice_get (setup_requests S) k ≡ Some r → sim_after rows S k r.sim ≡ Some L → sim_after rows S (suc k) r.sim ≡ Some (after_call L r.call)
after_one_more rows S k r L e is =
    ap (λ (cs : List Call). option_map (λ (M : Simulator). fold after_call M cs) (first_at rows S r.sim)) (calls_here k r (setup_requests S) e) ∙ came_on (first_at rows S r.sim) (filter_map (call_to r.sim) (take k (setup_requests S))) r.call L is

-- or to another
pub after_other : (rows : List Turn) (S : Scenario) (k : ℕ) (r : Request) (i : ℕ) → slice_get (setup_requests S) k ≡ Some r → (i ≡ r.sim → ⊥) → sim_after rows S (suc k) i ≡ sim_after rows S k i
after_other rows S k r i e apart = ap (λ (cs : List Call). option_map (λ (M : Simulator). fold after_call M cs) (first_at rows S i)) (calls_away k r i (setup_requests S) e apart)

-- or to one that has a link
after_none : (o : Option Simulator) (a b : List Call) → o ≡ None → option_map (λ (M : Simulator). fold after_call M a) o ≡ option_map (λ (M : Simulator). fold after_call M b) o
after_none o a b e = ap (option_map (λ (M : Simulator). fold after_call M a)) e ∙ ap (option_map (λ (M : Simulator). fold after_call M b)) (sym e)

pub still_none : (rows : List Turn) (S : Scenario) (k n i : ℕ) → first_at rows S i ≡ None → sim_after rows S k i ≡ sim_after rows S n i
still_none rows S k n i e = after_none (first_at rows S i) (filter_map (call_to i) (take k (setup_requests S))) (filter_map (call_to i) (take n (setup_requests S))) e
