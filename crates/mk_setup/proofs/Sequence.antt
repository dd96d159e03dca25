-- The list of requests: how many there are, and which stands where.
use Rattle.std.proofs.Common.{◌≡◌, ℕ, zero, suc, ◌+◌, ◌-◌, ◌<◌, ◌⊎◌, List, [], ◌∷◌, ◌++◌, length, map, Some, slice_get, refl, sym, ap, ◌∙◌, inl, inr, arith, length-append}
use Rattle.std.specs.Prelude.{option_map}
use Rattle.std.specs.List.{enumerate_from}
use Rattle.std.proofs.lemmas.Option.{slice_get-map, slice_get_within}
use Rattle.std.proofs.lemmas.List.FromFn.{length-enumerate_from}
use Rattle.std.proofs.lemmas.List.{length-map}
use Rattle.std.proofs.lemmas.Bool.{cases_lt}
use Rattle.mk_base.proofs.Lists.{below_get, some_same}
use Rattle.mk_plan.specs.declared.Call.TheVariants.{Init, Create, SetupDone}
use Rattle.mk_scenario.specs.declared.parts.SimPart.{SimPart}
use Rattle.mk_scenario.specs.declared.parts.Group.{Group}
use Rattle.mk_scenario.specs.declared.parts.Scenario.{Scenario}
use Rattle.mk_run_laws.specs.Handshake.{Request, setup_requests}

module _ {X : Type 0} where
  pub get_front : (xs ys : List X) (i : ℕ) → i < length xs → slice_get (xs ++ ys) i ≡ slice_get xs i
  get_front [] ys i below = absurd (omega arith)
  get_front (x ∷ xs) ys zero below = refl
  get_front (x ∷ xs) ys (suc i) below = get_front xs ys i (omega arith)

  pub get_back : (xs ys : List X) (k i : ℕ) → k ≡ length xs + i → slice_get (xs ++ ys) k ≡ slice_get ys i
  get_back [] ys k i is = ap (slice_get ys) (is ∙ nothing i)
    where
      nothing : (i : ℕ) → 0 + i ≡ i
      nothing i = omega arith
  get_back (x ∷ xs) ys zero i is = absurd (omega arith)
  get_back (x ∷ xs) ys (suc k) i is = get_back xs ys k i (omega arith)

  pub get_numbered : (n : ℕ) (xs : List X) (i : ℕ) (x : X) → slice_get xs i ≡ Some x → slice_get (enumerate_from n xs) i ≡ Some (n + i, x)
  get_numbered n [] i x is = cc
  get_numbered n (y ∷ ys) zero x is = (λ k. Some (at_zero n k, some_same is k))
    where
      at_zero : (n : ℕ) → n ≡ n + 0
      at_zero n = omega arith
  get_numbered n (y ∷ ys) (suc i) x is = get_numbered (n + 1) ys i x is ∙ ap (λ (k : ℕ). Some (k, x)) (next n i)
    where
      next : (n i : ℕ) → n + 1 + i ≡ n + suc i
      next n i = omega arith

abbrev pub init_to : ℕ × SimPart → Request
init_to n = record { sim = n.0; call = Init n.1.id n.1.params }

abbrev pub create_of : Group → Request
create_of g = record { sim = g.sim.0; call = Create g.num g.model g.params }

abbrev pub done_to : ℕ × SimPart → Request
done_to n = record { sim = n.0; call = SetupDone }

-- the requests of these simulators by one of these
abbrev pub each_sim : (ℕ × SimPart → Request) → List SimPart → List Request
each_sim f sims = map f (enumerate_from 0 sims)

each_count : (f : ℕ × SimPart → Request) (sims : List SimPart) → length (each_sim f sims) ≡ length sims
each_count f sims = length-map (enumerate_from 0 sims) f ∙ length-enumerate_from 0 sims

each_get : (f : ℕ × SimPart → Request) (sims : List SimPart) (i : ℕ) (p : SimPart) → slice_get sims i ≡ Some p → slice_get (each_sim f sims) i ≡ Some (f (i, p))
each_get f sims i p is = slice_get-map f (enumerate_from 0 sims) i ∙ ap (option_map f) (get_numbered 0 sims i p is) ∙ ap (λ (k : ℕ). Some (f (k, p))) (nothing i)
  where
    nothing : (i : ℕ) → 0 + i ≡ i
    nothing i = omega arith

-- the request at this place is an `init`, a `create`, or a `setup_done`
pub record IsInit (S : Scenario) (k : ℕ) (r : Request) : Type 0 where
  pub part : SimPart
  pub there : slice_get S.sims k ≡ Some part
  pub is : r ≡ init_to (k, part)

pub record IsCreate (S : Scenario) (k : ℕ) (r : Request) : Type 0 where
  pub place : ℕ
  pub group : Group
  pub at : k ≡ length S.sims + place
  pub there : slice_get S.groups place ≡ Some group
  pub is : r ≡ create_of group

pub record IsDone (S : Scenario) (k : ℕ) (r : Request) : Type 0 where
  pub sim : ℕ
  pub at : k ≡ length S.sims + length S.groups + sim
  pub there : sim < length S.sims
  pub is : r ≡ record { sim = sim; call = SetupDone }

module _ (S : Scenario) where
  abbrev inits : List Request
  inits = each_sim init_to S.sims

  abbrev creates : List Request
  creates = map create_of S.groups

  abbrev dones : List Request
  dones = each_sim done_to S.sims

  groups_end : length (inits ++ creates) ≡ length S.sims + length S.groups
  groups_end = length-append inits creates ∙ (λ k. each_count init_to S.sims k + length-map S.groups create_of k)

  pub request_count : length (setup_requests S) ≡ length S.sims + length S.groups + length S.sims
  request_count = length-append (inits ++ creates) dones ∙ (λ k. groups_end k + each_count done_to S.sims k)

  pub init_at : (i : ℕ) (p : SimPart) → slice_get S.sims i ≡ Some p → slice_get (setup_requests S) i ≡ Some (init_to (i, p))
  init_at i p is =
      let within : i < length S.sims = slice_get_within S.sims i p is in
      let few : length inits ≡ length S.sims = each_count init_to S.sims in
      let end : length (inits ++ creates) ≡ length S.sims + length S.groups = groups_end in
      get_front (inits ++ creates) dones i (omega arith) ∙ get_front inits creates i (omega arith) ∙ each_get init_to S.sims i p is

  pub create_at : (k i : ℕ) (g : Group) → k ≡ length S.sims + i → slice_get S.groups i ≡ Some g → slice_get (setup_requests S) k ≡ Some (create_of g)
  create_at k i g at is =
      let within : i < length S.groups = slice_get_within S.groups i g is in
      let few : length inits ≡ length S.sims = each_count init_to S.sims in
      let end : length (inits ++ creates) ≡ length S.sims + length S.groups = groups_end in
      get_front (inits ++ creates) dones k (omega arith) ∙ get_back inits creates k i (omega arith) ∙ slice_get-map create_of S.groups i ∙ ap (option_map create_of) is

  pub done_at : (k i : ℕ) → k ≡ length S.sims + length S.groups + i → i < length S.sims → slice_get (setup_requests S) k ≡ Some (record { sim = i; call = SetupDone })
  done_at k i at below =
      let end : length (inits ++ creates) ≡ length S.sims + length S.groups = groups_end in
      let t = below_get S.sims i below in
      get_back (inits ++ creates) dones k i (omega arith) ∙ each_get done_to S.sims i t.0 t.1

  -- each request is of one of the three
  pub request_is : (k : ℕ) (r : Request) → slice_get (setup_requests S) k ≡ Some r → IsInit S k r ⊎ (IsCreate S k r ⊎ IsDone S k r)
  request_is k r is =
      let below : k < length (setup_requests S) = slice_get_within (setup_requests S) k r is in
      let count : length (setup_requests S) ≡ length S.sims + length S.groups + length S.sims = request_count in
      elim (cases_lt k (length S.sims)) [
        | inl early ↦ let t = below_get S.sims k early in inl (record { part = t.0; there = t.1; is = some_same (sym is ∙ init_at k t.0 t.1) })
        | inr later ↦ elim (cases_lt k (length S.sims + length S.groups)) [
          | inl early ↦
              let t = below_get S.groups (k - length S.sims) (omega arith) in
              let at : k ≡ length S.sims + (k - length S.sims) = omega arith in
              inr (inl (record { place = k - length S.sims; group = t.0; at = at; there = t.1; is = some_same (sym is ∙ create_at k (k - length S.sims) t.0 at t.1) }))
          | inr late ↦
              let i : ℕ = k - (length S.sims + length S.groups) in
              let at : k ≡ length S.sims + length S.groups + i = omega arith in
              let there : i < length S.sims = omega arith in
              inr (inr (record { sim = i; at = at; there = there; is = some_same (sym is ∙ done_at k i at there) }))
        ]
      ]
