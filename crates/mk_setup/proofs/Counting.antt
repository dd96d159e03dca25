-- How many requests go to each simulator.
use Rattle.std.proofs.Common.{◌≡◌, ℕ, zero, suc, ◌+◌, ◌<◌, ◌≤◌, ◌^◌, Bool, true, false, List, [], ◌∷◌, ◌++◌, length, map, take, Option, Some, None, slice_get, get_or, replicate, refl, sym, ap, ◌∙◌, inl, inr, arith, length-append, if◌then◌else◌}
use Rattle.std.specs.Prelude.{filter_map, option_map, slice_set, ◌==◌}
use Rattle.std.specs.List.{cons_option, enumerate_from, range_with_len}
use Rattle.std.proofs.lemmas.List.{take_more}
use Rattle.std.proofs.lemmas.List.FromFn.{length-map-range_with_len}
use Rattle.std.proofs.lemmas.Option.{slice_get_within, slice_get-get_or}
use Rattle.mk_base.proofs.Lists.{at_in, below_get, in_each, filter_map_append, get_is, none_some, some_same}
use Rattle.mk_scenario.specs.declared.parts.Group.{Group}
use Rattle.mk_scenario.specs.declared.parts.SimPart.{SimPart}
use Rattle.mk_scenario.specs.declared.parts.Scenario.{Scenario}
use Rattle.mk_scenario.specs.Wellformed.{IsWellformed, IsWellformedGroup}
use Rattle.mk_connect.proofs.ByPlaces.{range_get}
use Rattle.mk_run_laws.specs.Handshake.{Request, call_to, setup_count, setup_requests}
use Rattle.mk_setup.specs.inner.Counts.{IsCounted, IsToSim}
use Rattle.mk_setup.specs.Requests.{first_ids, id_before}
use Rattle.mk_setup.proofs.Sequence.{create_of, done_to, each_sim, init_to, request_count}
use Rattle.mk_base.proofs.Counts.{not_same, same_or_not, same_self}

-- ---- lists of counts

-- two lists are equal where they are at each place
pub same_lists : {X : Type 0} → (xs ys : List X) → length xs ≡ length ys → ((i : ℕ) → i < length xs → slice_get xs i ≡ slice_get ys i) → xs ≡ ys
same_lists [] [] long each = refl
same_lists [] (y ∷ ys) long each = absurd (omega arith)
same_lists (x ∷ xs) [] long each = absurd (omega arith)
same_lists (x ∷ xs) (y ∷ ys) long each = (λ k. some_same (each 0 (omega arith)) k ∷ same_lists xs ys (omega arith) (λ i below. each (suc i) (omega arith)) k)

count_get : (f : ℕ → ℕ) (n i : ℕ) → i < n → slice_get (map f (range_with_len 0 n)) i ≡ Some (f i)
count_get f n i below = range_get f 0 n i below ∙ ap (λ (k : ℕ). Some (f k)) (nothing i)
  where
    nothing : (i : ℕ) → 0 + i ≡ i
    nothing i = omega arith

set_length : (xs : List ℕ) (i x : ℕ) → length (slice_set xs i x) ≡ length xs
set_length [] i x = refl
set_length (y ∷ ys) zero x = refl
set_length (y ∷ ys) (suc i) x = ap suc (set_length ys i x)

-- one more at one place
pub bump : (f g : ℕ → ℕ) (n s c : ℕ) → s < n → g s ≡ f s + 1 → ((i : ℕ) → (i ≡ s → ⊥) → g i ≡ f i) → (ids ids' : List ℕ) → ids ≡ map f (range_with_len 0 n) → slice_get ids s ≡ Some c → ids' ≡ slice_set ids s (c + 1) → ids' ≡ map g (range_with_len 0 n)
bump f g n s c below more others ids ids' are at is = same_lists ids' (map g (range_with_len 0 n)) (long' ∙ sym long_g) each
  where
    long : length ids ≡ n
    long = ap length are ∙ length-map-range_with_len f 0 n

    long' : length ids' ≡ n
    long' = ap length is ∙ set_length ids s (c + 1) ∙ long

    long_g : length (map g (range_with_len 0 n)) ≡ n
    long_g = length-map-range_with_len g 0 n

    c_is : c ≡ f s
    c_is = some_same (sym at ∙ ap (λ (l : List ℕ). slice_get l s) are ∙ count_get f n s below)

    set_at : (xs : List ℕ) (k x : ℕ) → k < length xs → slice_get (slice_set xs k x) k ≡ Some x
    set_at [] k x h = absurd (omega arith)
    set_at (y ∷ ys) zero x h = refl
    set_at (y ∷ ys) (suc k) x h = set_at ys k x (omega arith)

    set_off : (xs : List ℕ) (k j x : ℕ) → (j ≡ k → ⊥) → slice_get (slice_set xs k x) j ≡ slice_get xs j
    set_off [] k j x apart = refl
    set_off (y ∷ ys) zero zero x apart = absurd (apart refl)
    set_off (y ∷ ys) zero (suc j) x apart = refl
    set_off (y ∷ ys) (suc k) zero x apart = refl
    set_off (y ∷ ys) (suc k) (suc j) x apart = set_off ys k j x (λ e. apart (ap suc e))

    each : (i : ℕ) → i < length ids' → slice_get ids' i ≡ slice_get (map g (range_with_len 0 n)) i
    each i h = let e : length ids ≡ n = long in let e' : length ids' ≡ n = long' in elim (same_or_not i s) [
      | inl here ↦ ap (slice_get ids') here ∙ ap (λ (l : List ℕ). slice_get l s) is ∙ set_at ids s (c + 1) (omega arith) ∙ ap Some (ap (λ (k : ℕ). k + 1) c_is ∙ sym more) ∙ sym (count_get g n s below) ∙ ap (slice_get (map g (range_with_len 0 n))) (sym here)
      | inr apart ↦ ap (λ (l : List ℕ). slice_get l i) is ∙ set_off ids s i (c + 1) apart ∙ ap (λ (l : List ℕ). slice_get l i) are ∙ count_get f n i (omega arith) ∙ ap Some (sym (others i apart)) ∙ sym (count_get g n i (omega arith))
    ]

replicate_get : (n c i : ℕ) → i < n → slice_get (replicate n c) i ≡ Some c
replicate_get zero c i below = absurd (omega arith)
replicate_get (suc n) c zero below = refl
replicate_get (suc n) c (suc i) below = replicate_get n c i (omega arith)

replicate_length : (n c : ℕ) → length (replicate n c) ≡ n
replicate_length zero c = refl
replicate_length (suc n) c = ap suc (replicate_length n c)

-- the same count everywhere
pub equal_counts : (f : ℕ → ℕ) (n c : ℕ) → ((i : ℕ) → i < n → f i ≡ c) → replicate n c ≡ map f (range_with_len 0 n)
equal_counts f n c same = same_lists (replicate n c) (map f (range_with_len 0 n)) (replicate_length n c ∙ sym (length-map-range_with_len f 0 n))
    (λ i below. let h : i < n = let e = replicate_length n c in omega arith in replicate_get n c i h ∙ ap Some (sym (same i h)) ∙ sym (count_get f n i h))

-- ---- requests to one simulator

abbrev pub count_to : ℕ → List Request → ℕ
count_to i rs = length (filter_map (call_to i) rs)

pub count_append : (i : ℕ) (a b : List Request) → count_to i (a ++ b) ≡ count_to i a + count_to i b
count_append i a b = ap length (filter_map_append (call_to i) a b) ∙ length-append (filter_map (call_to i) a) (filter_map (call_to i) b)

pub count_here : (r : Request) → count_to r.sim (r ∷ []) ≡ 1
count_here r = ap (λ (b : Bool). length (cons_option (if b then Some r.call else None) [])) (same_self r.sim)

pub count_away : (r : Request) (i : ℕ) → (i ≡ r.sim → ⊥) → count_to i (r ∷ []) ≡ 0
count_away r i apart = ap (λ (b : Bool). length (cons_option (if b then Some r.call else None) [])) (not_same r.sim i (λ e. apart (sym e)))

-- each request is to at most one
few_to : (i : ℕ) (rs : List Request) → count_to i rs ≤ length rs
few_to i [] = omega arith
few_to i (r ∷ rs) = let h = few_to i rs in elim (r.sim == i) as (λ b. length (cons_option (if b then Some r.call else None) (filter_map (call_to i) rs)) ≤ suc (length rs)) [ true ↦ omega arith | false ↦ omega arith ]

module _ (S : Scenario) where
  abbrev all : List Request
  all = setup_requests S

  -- one request more
  pub taken_more : (k : ℕ) (r : Request) → slice_get all k ≡ Some r → (i : ℕ) → id_before S (k + 1) i ≡ id_before S k i + count_to i (r ∷ [])
  taken_more k r is i =
      let t = get_is all k r is in
      ap (count_to i) (take_more all k r t.0 ∙ ap (λ (q : Request). take k all ++ q ∷ []) t.1) ∙ count_append i (take k all) (r ∷ [])

  pub few_ids : (k i : ℕ) → k ≤ length all → id_before S k i ≤ k
  few_ids k i within = let h = few_to i (take k all) in let e = take_length all k within in omega arith
    where
      take_length : (xs : List Request) (n : ℕ) → n ≤ length xs → length (take n xs) ≡ n
      take_length [] zero h = refl
      take_length [] (suc n) h = absurd (omega arith)
      take_length (x ∷ xs) zero h = refl
      take_length (x ∷ xs) (suc n) h = ap suc (take_length xs n (omega arith))

  pub count_few : (i : ℕ) → setup_count S i ≤ length all
  count_few i = few_to i all

  pub few_requests : IsWellformed S → length all ≤ 20000
  few_requests w = let c = request_count S in let s = w.sim_count.1 in let g = w.group_count in omega arith

  counted_at : (k : ℕ) (ids : List ℕ) → IsCounted S k ids → (i : ℕ) → i < length S.sims → slice_get ids i ≡ Some (id_before S k i)
  counted_at k ids c i below = ap (λ (l : List ℕ). slice_get l i) c.numbered ∙ count_get (id_before S k) (length S.sims) i below

  pub counted_length : (k : ℕ) (ids : List ℕ) → IsCounted S k ids → length ids ≡ length S.sims
  counted_length k ids c = ap length c.numbered ∙ length-map-range_with_len (id_before S k) 0 (length S.sims)

  pub count_is : (k : ℕ) (ids : List ℕ) → IsCounted S k ids → (i n : ℕ) → slice_get ids i ≡ Some n → n ≡ id_before S k i
  count_is k ids c i n is =
      let h : i < length ids = slice_get_within ids i n is in
      let e : length ids ≡ length S.sims = counted_length k ids c in
      some_same (sym is ∙ counted_at k ids c i (omega arith))

  pub count_small : (k : ℕ) (ids : List ℕ) → IsCounted S k ids → (i n : ℕ) → slice_get ids i ≡ Some n → n < 2 ^ 32
  count_small k ids c i n is =
      let e : n ≡ id_before S k i = count_is k ids c i n is in
      let h : id_before S k i ≤ k = few_ids k i c.within in
      let w : length all ≤ 20000 = few_requests c.wellformed in
      let v : k ≤ length all = c.within in
      omega arith

  pub few_answered : (k : ℕ) (ids : List ℕ) → IsCounted S k ids → k ≤ 20000
  few_answered k ids c = let w = few_requests c.wellformed in let v = c.within in omega arith

  -- the request number k, to this simulator, is counted
  pub counted_more : (k sim n : ℕ) (ids ids' : List ℕ) → IsCounted S k ids → IsToSim S k sim → sim < length S.sims → slice_get ids sim ≡ Some n → ids' ≡ slice_set ids sim (n + 1) → IsCounted S (k + 1) ids'
  counted_more k sim n ids ids' c to below at is =
      go (slice_get all k) refl to
    where
      nothing : (m : ℕ) → m + 0 ≡ m
      nothing m = omega arith

      go : (o : Option Request) → slice_get all k ≡ o → option_map (λ (r : Request). r.sim) o ≡ Some sim → IsCounted S (k + 1) ids'
      go None there e = absurd (none_some e)
      go (Some r) there e =
          let s : r.sim ≡ sim = some_same e in
          let within : k < length all = slice_get_within all k r there in
          record {
            wellformed = c.wellformed;
            within = omega arith;
            numbered = bump (id_before S k) (id_before S (k + 1)) (length S.sims) sim n below
                (taken_more k r there sim ∙ ap (λ (m : ℕ). id_before S k sim + m) (ap (λ (j : ℕ). count_to j (r ∷ [])) (sym s) ∙ count_here r))
                (λ i apart. taken_more k r there i ∙ ap (λ (m : ℕ). id_before S k i + m) (count_away r i (λ q. apart (q ∙ s))) ∙ nothing (id_before S k i))
                ids ids' c.numbered at is;
          }

-- ---- requests before the run

-- of the simulators from n on, one is number i
never : (f : ℕ × SimPart → Request) → ((p : ℕ × SimPart) → (f p).sim ≡ p.0) → (i n : ℕ) (sims : List SimPart) → i < n → count_to i (map f (enumerate_from n sims)) ≡ 0
never f to i n [] below = refl
never f to i n (s ∷ sims) below = count_append i (f (n, s) ∷ []) (map f (enumerate_from (n + 1) sims))
    ∙ (λ k. count_away (f (n, s)) i (λ e. let q : (f (n, s)).sim ≡ n = to (n, s) in absurd (omega arith)) k + never f to i (n + 1) sims (omega arith) k)

once : (f : ℕ × SimPart → Request) → ((p : ℕ × SimPart) → (f p).sim ≡ p.0) → (i n : ℕ) (sims : List SimPart) → n ≤ i → i < n + length sims → count_to i (map f (enumerate_from n sims)) ≡ 1
once f to i n [] from below = absurd (omega arith)
once f to i n (s ∷ sims) from below = count_append i (f (n, s) ∷ []) (map f (enumerate_from (n + 1) sims)) ∙ elim (same_or_not i n) [
  | inl here ↦ (λ k. (ap (λ (j : ℕ). count_to j (f (n, s) ∷ [])) (here ∙ sym (to (n, s))) ∙ count_here (f (n, s))) k + never f to i (n + 1) sims (omega arith) k)
  | inr apart ↦ (λ k. count_away (f (n, s)) i (λ e. apart (e ∙ to (n, s))) k + once f to i (n + 1) sims (omega arith) (omega arith) k)
]

-- one for each of its groups, and two more
pub count_is_all : (S : Scenario) (i : ℕ) → i < length S.sims → setup_count S i ≡ 2 + count_to i (map create_of S.groups)
count_is_all S i below =
    let inits : List Request = each_sim init_to S.sims in
    let creates : List Request = map create_of S.groups in
    let dones : List Request = each_sim done_to S.sims in
    let a : count_to i (inits ++ creates ++ dones) ≡ count_to i (inits ++ creates) + count_to i dones = count_append i (inits ++ creates) dones in
    let b : count_to i (inits ++ creates) ≡ count_to i inits + count_to i creates = count_append i inits creates in
    let c : count_to i inits ≡ 1 = once init_to (λ p. refl) i 0 S.sims (omega arith) (omega arith) in
    let d : count_to i dones ≡ 1 = once done_to (λ p. refl) i 0 S.sims (omega arith) (omega arith) in
    omega (arith, a, b, c, d)

-- the counts after the first groups
abbrev pub counts_after : List Group → ℕ → List ℕ
counts_after groups n = map (λ i. 2 + count_to i (map create_of groups)) (range_with_len 0 n)

pub all_counted : (S : Scenario) → counts_after S.groups (length S.sims) ≡ first_ids S
all_counted S = same_lists (counts_after S.groups (length S.sims)) (first_ids S) (length-map-range_with_len _ 0 (length S.sims) ∙ sym (length-map-range_with_len (setup_count S) 0 (length S.sims)))
    (λ i below. let e : length (counts_after S.groups (length S.sims)) ≡ length S.sims = length-map-range_with_len (λ i. 2 + count_to i (map create_of S.groups)) 0 (length S.sims) in let h : i < length S.sims = omega arith in
    count_get (λ i. 2 + count_to i (map create_of S.groups)) (length S.sims) i h ∙ ap Some (sym (count_is_all S i h)) ∙ sym (count_get (setup_count S) (length S.sims) i h))

map_append : (f : Group → Request) (xs ys : List Group) → map f (xs ++ ys) ≡ map f xs ++ map f ys
map_append f [] ys = refl
map_append f (x ∷ xs) ys = ap (λ (l : List Request). f x ∷ l) (map_append f xs ys)

-- one group more
pub counts_more : (groups : List Group) (k n c : ℕ) (g : Group) (ids ids' : List ℕ) → k < length groups → g ≡ get_or groups k g → g.sim.0 < n → ids ≡ counts_after (take k groups) n → slice_get ids g.sim.0 ≡ Some c → ids' ≡ slice_set ids g.sim.0 (c + 1) → ids' ≡ counts_after (take (k + 1) groups) n
counts_more groups k n c g ids ids' below here of_sim are at is =
    bump (counts (take k groups)) (counts (take (k + 1) groups)) n g.sim.0 c of_sim (more g.sim.0 ∙ ap (λ (m : ℕ). counts (take k groups) g.sim.0 + m) (count_here (create_of g)))
    (λ i apart. more i ∙ ap (λ (m : ℕ). counts (take k groups) i + m) (count_away (create_of g) i apart) ∙ nothing (counts (take k groups) i)) ids ids' are at is
  where
    counts : List Group → ℕ → ℕ
    counts gs i = 2 + count_to i (map create_of gs)

    more : (i : ℕ) → counts (take (k + 1) groups) i ≡ counts (take k groups) i + count_to i (create_of g ∷ [])
    more i =
        let e : take (k + 1) groups ≡ take k groups ++ g ∷ [] = take_more groups k g below ∙ ap (λ (h : Group). take k groups ++ h ∷ []) (sym here) in
        let a : count_to i (map create_of (take (k + 1) groups)) ≡ count_to i (map create_of (take k groups)) + count_to i (create_of g ∷ []) = ap (λ (gs : List Group). count_to i (map create_of gs)) e ∙ ap (count_to i) (map_append create_of (take k groups) (g ∷ [])) ∙ count_append i (map create_of (take k groups)) (create_of g ∷ []) in
        omega (arith, a)

    nothing : (m : ℕ) → m + 0 ≡ m
    nothing m = omega arith

pub counts_small : (groups : List Group) (n c i : ℕ) (ids : List ℕ) → length groups ≤ 10000 → ids ≡ counts_after groups n → slice_get ids i ≡ Some c → c < 2 ^ 32
counts_small groups n c i ids few are at =
    let f : ℕ → ℕ = λ i. 2 + count_to i (map create_of groups) in
    let long : length ids ≡ n = ap length are ∙ length-map-range_with_len f 0 n in
    let h : i < length ids = slice_get_within ids i c at in
    let e : c ≡ 2 + count_to i (map create_of groups) = some_same (sym at ∙ ap (λ (l : List ℕ). slice_get l i) are ∙ count_get f n i (omega arith)) in
    let b : count_to i (map create_of groups) ≤ length (map create_of groups) = few_to i (map create_of groups) in
    let d : length (map create_of groups) ≡ length groups = map_length groups in
    omega (arith, e, b, d)
  where
    map_length : (gs : List Group) → length (map create_of gs) ≡ length gs
    map_length [] = refl
    map_length (g ∷ gs) = ap suc (map_length gs)

-- ---- counting groups one by one

pub after_length : (groups : List Group) (n : ℕ) (ids : List ℕ) → ids ≡ counts_after groups n → length ids ≡ n
after_length groups n ids are = ap length are ∙ length-map-range_with_len (λ i. 2 + count_to i (map create_of groups)) 0 n

pub none_counted : (n : ℕ) (ids : List ℕ) → ids ≡ replicate n 2 → ids ≡ counts_after [] n
none_counted n ids are = are ∙ equal_counts (λ i. 2 + count_to i (map create_of [])) n 2 (λ i h. refl)

module _ (S : Scenario) (w : IsWellformed S) where
  pub group_sim : (k : ℕ) (g : Group) → slice_get S.groups k ≡ Some g → g.sim.0 < length S.sims
  group_sim k g is = (in_each (IsWellformedGroup (length S.sims)) g S.groups w.groups (at_in g S.groups k is)).sim

  pub group_there : (k : ℕ) (g : Group) → k < length S.groups → g ≡ get_or S.groups k g → slice_get S.groups k ≡ Some g
  group_there k g below is = slice_get-get_or S.groups k g below ∙ ap Some (sym is)

  pub group_step : (k : ℕ) (g : Group) (ids ids' : List ℕ) → k < length S.groups → g ≡ get_or S.groups k g → ids ≡ counts_after (take k S.groups) (length S.sims)
      → ((n : ℕ) → slice_get ids g.sim.0 ≡ Some n → ids' ≡ slice_set ids g.sim.0 (n + 1)) → ids' ≡ counts_after (take (k + 1) S.groups) (length S.sims)
  group_step k g ids ids' below is are set =
      let of_sim : g.sim.0 < length S.sims = group_sim k g (group_there k g below is) in
      let long : length ids ≡ length S.sims = after_length (take k S.groups) (length S.sims) ids are in
      let t = below_get ids g.sim.0 (omega arith) in
      counts_more S.groups k (length S.sims) t.0 g ids ids' below is of_sim are t.1 (set t.0 t.1)

  pub group_small : (k i n : ℕ) (ids : List ℕ) → ids ≡ counts_after (take k S.groups) (length S.sims) → slice_get ids i ≡ Some n → n < 2 ^ 32
  group_small k i n ids are at = counts_small (take k S.groups) (length S.sims) n i ids (let h = take_few k S.groups in let g = w.group_count in omega arith) are at
    where
      take_few : (k : ℕ) (gs : List Group) → length (take k gs) ≤ length gs
      take_few zero gs = omega arith
      take_few (suc k) [] = omega arith
      take_few (suc k) (g ∷ gs) = let h = take_few k gs in omega arith

  pub groups_counted : (k : ℕ) (ids : List ℕ) → length S.groups ≤ k → ids ≡ counts_after (take k S.groups) (length S.sims) → ids ≡ first_ids S
  groups_counted k ids past are = are ∙ ap (λ (gs : List Group). counts_after gs (length S.sims)) (take_all k S.groups past) ∙ all_counted S
    where
      take_all : (k : ℕ) (gs : List Group) → length gs ≤ k → take k gs ≡ gs
      take_all zero [] h = refl
      take_all zero (g ∷ gs) h = absurd (omega arith)
      take_all (suc k) [] h = refl
      take_all (suc k) (g ∷ gs) h = ap (λ (l : List Group). g ∷ l) (take_all k gs (omega arith))
