-- Which simulators have a link, and which are within the program.
use Rattle.std.proofs.Common.{◌≡◌, ℕ, zero, suc, ◌+◌, ◌<◌, ◌||◌, not, Bool, true, false, List, [], ◌∷◌, length, map, Option, Some, None, slice_get, refl, sym, ap, ◌∙◌, subst, inl, arith, if◌then◌else◌}
use Rattle.std.specs.Prelude.{option_map, option_and_then, option_to_list, unwrap_or, take, filter}
use Rattle.mk_base.specs.declared.LinkNo.{LinkNo}
use Rattle.mk_base.specs.Lists.{IsIn, same_text, is_among}
use Rattle.mk_base.proofs.Lists.{none_some, some_same, at_in, below_get, get_is, in_each, flat_map_in}
use Rattle.mk_scenario.specs.declared.parts.Begin.{Begin}
use Rattle.mk_scenario.specs.declared.parts.Begin.TheVariants.{Command, Connect, Local}
use Rattle.mk_scenario.specs.declared.parts.SimPart.{SimPart}
use Rattle.mk_scenario.specs.declared.parts.Scenario.{Scenario}
use Rattle.mk_launch.specs.declared.faults.LaunchFault.TheVariants.{NoKind}
use Rattle.mk_launch.specs.Ready.{IsPrepared, CanBegin, begin_fault}
use Rattle.mk_launch.specs.Starts.{places, links_in, place_of, link_count}
use Rattle.mk_local.specs.declared.turn.Turn.{Turn}
use Rattle.mk_local.specs.Kinds.{name_of, kind_named}
use Rattle.mk_local.specs.Simulators.{Simulator, new_simulator}
use Rattle.mk_run_laws.specs.Handshake.{sim_link, is_within, is_local, has_link}
use Rattle.mk_run_laws.proofs.Starting.{place_is}
use Rattle.mk_run_local.specs.Seen.{begun_as, first_of}
use Rattle.mk_run_local.specs.Made.{first_at}

-- ---- by how a simulator is begun

-- the link of this number, where one is begun so
abbrev pub link_by : ℕ → Begin → Option LinkNo
link_by n b = if not (is_local b) then Some (record { 0 = n }) else None

away_by : (rows : List Turn) (n : ℕ) (b : Begin) (l : LinkNo) → link_by n b ≡ Some l → (begun_as rows b ≡ None) × (is_local b ≡ false)
away_by rows n (Command t) l e = (refl, refl)
away_by rows n (Connect p) l e = (refl, refl)
away_by rows n (Local k) l e = absurd (none_some e)

here_by : (rows : List Turn) (n : ℕ) (b : Begin) (L : Simulator) → begun_as rows b ≡ Some L → (link_by n b ≡ None) × (is_local b ≡ true)
here_by rows n (Command t) L e = absurd (none_some e)
here_by rows n (Connect p) L e = absurd (none_some e)
here_by rows n (Local k) L e = (refl, refl)

-- a kind of that name is found
named_there : (kind : List ℕ) (rows : List Turn) → is_among (map name_of rows) kind ≡ true → (T : Turn) × (kind_named kind rows ≡ Some T)
named_there kind [] e = cc
named_there kind (T ∷ rows) e = elim (same_text (name_of T) kind) as (λ b. (b || is_among (map name_of rows) kind) ≡ true → (U : Turn) × ((if b then Some T else kind_named kind rows) ≡ Some U)) [
  | true ↦ λ h. (T, refl)
  | false ↦ λ h. named_there kind rows h
] e

kind_there : (b : Bool) → (if b then None else Some NoKind) ≡ None → b ≡ true
kind_there true e = refl
kind_there false e = absurd (none_some (sym e))

there_by : (rows : List Turn) (n : ℕ) (b : Begin) → begun_as rows b ≡ None → begin_fault (map name_of rows) b ≡ None → (l : LinkNo) × (link_by n b ≡ Some l)
there_by rows n (Command t) none fine = (record { 0 = n }, refl)
there_by rows n (Connect p) none fine = (record { 0 = n }, refl)
there_by rows n (Local k) none fine =
    let t = named_there k rows (kind_there (is_among (map name_of rows) k) fine) in
    absurd (none_some (sym none ∙ ap (option_map new_simulator) t.1))

pub local_by : (rows : List Turn) (b : Begin) → is_local b ≡ true → begin_fault (map name_of rows) b ≡ None → (L : Simulator) × (begun_as rows b ≡ Some L)
local_by rows (Command t) e fine = cc
local_by rows (Connect p) e fine = cc
local_by rows (Local k) e fine = let t = named_there k rows (kind_there (is_among (map name_of rows) k) fine) in (new_simulator t.0, ap (option_map new_simulator) t.1)

-- ---- by its part of the scenario, if it is there

away_in : (rows : List Turn) (n : ℕ) (o : Option SimPart) (l : LinkNo) → option_and_then (λ (s : SimPart). link_by n s.begin) o ≡ Some l
    → (option_and_then (first_of rows) o ≡ None) × (unwrap_or (option_map (λ (s : SimPart). is_local s.begin) o) false ≡ false)
away_in rows n None l e = absurd (none_some e)
away_in rows n (Some s) l e = away_by rows n s.begin l e

here_in : (rows : List Turn) (n : ℕ) (o : Option SimPart) (L : Simulator) → option_and_then (first_of rows) o ≡ Some L
    → (option_and_then (λ (s : SimPart). link_by n s.begin) o ≡ None) × (unwrap_or (option_map (λ (s : SimPart). is_local s.begin) o) false ≡ true)
here_in rows n None L e = absurd (none_some e)
here_in rows n (Some s) L e = here_by rows n s.begin L e

there_in : (rows : List Turn) (n : ℕ) (o : Option SimPart) (s : SimPart) → o ≡ Some s → CanBegin (map name_of rows) s → option_and_then (first_of rows) o ≡ None → (l : LinkNo) × (option_and_then (λ (s : SimPart). link_by n s.begin) o ≡ Some l)
there_in rows n None s e fine none = absurd (none_some e)
there_in rows n (Some r) s e fine none = there_by rows n r.begin none (subst (CanBegin (map name_of rows)) (sym (some_same e)) fine)

local_in : (rows : List Turn) (sims : List SimPart) (o : Option SimPart) → ((s : SimPart) → o ≡ Some s → CanBegin (map name_of rows) s) → unwrap_or (option_map (λ (s : SimPart). is_local s.begin) o) false ≡ true
    → (L : Simulator) × (option_and_then (first_of rows) o ≡ Some L)
local_in rows sims None fine e = cc
local_in rows sims (Some s) fine e = local_by rows s.begin e (fine s refl)

-- ---- by its number

-- what has a link isn't within the program
pub linked_away : (rows : List Turn) (started : ℕ) (S : Scenario) (i : ℕ) (l : LinkNo) → sim_link started S i ≡ Some l → (first_at rows S i ≡ None) × (is_within S i ≡ false)
linked_away rows started S i l e = away_in rows (started + length (filter has_link (take i S.sims))) (slice_get S.sims i) l e

-- what is within the program has no link
pub within_away : (rows : List Turn) (started : ℕ) (S : Scenario) (i : ℕ) (L : Simulator) → first_at rows S i ≡ Some L → (sim_link started S i ≡ None) × (is_within S i ≡ true)
within_away rows started S i L e = here_in rows (started + length (filter has_link (take i S.sims))) (slice_get S.sims i) L e

can_begin : (rows : List Turn) (S : Scenario) → IsPrepared S (map name_of rows) → (i : ℕ) (s : SimPart) → slice_get S.sims i ≡ Some s → CanBegin (map name_of rows) s
can_begin rows S prepared i s e = in_each (CanBegin (map name_of rows)) s S.sims prepared (at_in s S.sims i e)

-- what isn't within the program has a link
pub else_linked : (rows : List Turn) (started : ℕ) (S : Scenario) → IsPrepared S (map name_of rows) → (i : ℕ) → i < length S.sims → first_at rows S i ≡ None → (l : LinkNo) × (sim_link started S i ≡ Some l)
else_linked rows started S prepared i less none =
    let t = below_get S.sims i less in
    there_in rows (started + length (filter has_link (take i S.sims))) (slice_get S.sims i) t.0 t.1 (can_begin rows S prepared i t.0 t.1) none

-- what is within the program is a simulator of its kind
pub within_there : (rows : List Turn) (S : Scenario) → IsPrepared S (map name_of rows) → (i : ℕ) → is_within S i ≡ true → (L : Simulator) × (first_at rows S i ≡ Some L)
within_there rows S prepared i e = local_in rows S.sims (slice_get S.sims i) (can_begin rows S prepared i) e

-- ---- places of links

linked_below_in : (n : ℕ) (o : Option SimPart) (l : LinkNo) → option_and_then (λ (s : SimPart). link_by n s.begin) o ≡ Some l → (s : SimPart) × (o ≡ Some s)
linked_below_in n None l e = absurd (none_some e)
linked_below_in n (Some s) l e = (s, refl)

-- a link has its place
pub link_placed : (started : ℕ) (S : Scenario) (i : ℕ) (l : LinkNo) → sim_link started S i ≡ Some l → slice_get (places started S.sims) i ≡ Some (Some l)
link_placed started S i l e =
    let t = linked_below_in (started + length (filter has_link (take i S.sims))) (slice_get S.sims i) l e in
    place_is started S.sims i (get_is S.sims i t.0 t.1).0 ∙ ap Some e

below : (n : ℕ) (sims : List SimPart) (i : ℕ) (o : Option LinkNo) → slice_get (places n sims) i ≡ Some o → i < length sims
below n [] i o e = absurd (none_some e)
below n (s ∷ sims) zero o e = omega arith
below n (s ∷ sims) (suc i) o e = let t = below (n + link_count (place_of n s.begin)) sims i o e in omega (arith, t)

-- and a place has the simulator's link
pub placed_link : (started : ℕ) (S : Scenario) (i : ℕ) (l : LinkNo) → slice_get (places started S.sims) i ≡ Some (Some l) → sim_link started S i ≡ Some l
placed_link started S i l e = some_same (sym (place_is started S.sims i (below started S.sims i (Some l) e)) ∙ e)

-- the links that have a place
pub link_in_places : (links : List (Option LinkNo)) (i : ℕ) (l : LinkNo) → slice_get links i ≡ Some (Some l) → IsIn l (links_in links)
link_in_places links i l e = flat_map_in option_to_list (Some l) l links (at_in (Some l) links i e) (inl refl)
