-- A scenario whose simulators are all within the program has no links.
use Rattle.std.proofs.Common.{◌≡◌, ℕ, zero, suc, ◌+◌, ◌<◌, not, true, false, List, [], ◌∷◌, length, take, Option, Some, None, slice_get, refl, sym, ap, ◌∙◌, arith, true≢false, if◌then◌else◌}
use Rattle.std.specs.Prelude.{filter, option_and_then, option_map, unwrap_or}
use Rattle.std.specs.List.{list_all}
use Rattle.mk_base.specs.declared.LinkNo.{LinkNo}
use Rattle.mk_base.proofs.Lists.{none_some}
use Rattle.mk_outside.specs.declared.fleet.LogEntry.TheVariants.{Rest}
use Rattle.mk_outside.specs.Counts.{HasRisen}
use Rattle.mk_scenario.specs.declared.parts.Begin.{Begin}
use Rattle.mk_scenario.specs.declared.parts.Begin.TheVariants.{Command, Connect, Local}
use Rattle.mk_scenario.specs.declared.parts.SimPart.{SimPart}
use Rattle.mk_scenario.specs.declared.parts.Scenario.{Scenario}
use Rattle.mk_launch.specs.Starts.{link_count, links_in, place_of, places}
use Rattle.mk_run_crew.specs.Attempts.{attempt}
use Rattle.mk_local.specs.declared.turn.Turn.{Turn}
use Rattle.mk_run_laws.specs.Crews.{AreStopped, IsRestless}
use Rattle.mk_run_laws.specs.Handshake.{has_link, is_local, is_within, sim_link}
use Rattle.mk_setup.specs.declared.fault.SetupFault.{SetupFault}
use Rattle.mk_setup.specs.declared.fault.SetupFault.TheVariants as fault
use Rattle.mk_run_links.specs.Places.{at, new_channels}
use Rattle.mk_run_crew.specs.declared.halt.Halt.{Halt}
use Rattle.mk_run_crew.specs.inner.Asking.{IsHalting, setup_halt}
use Rattle.mk_run_crew.specs.Halted.{HasHalted}
use Rattle.mk_run_crew.specs.Seen.{CrewSeen, crew_of}
use Rattle.mk_run_crew.specs.Wholly.{IsWithinHalt, is_wholly_within}
use Rattle.mk_run_crew.specs.inner.Wholly.{no_links}
use Rattle.mk_run_crew.proofs.Ending.{halted}
use Rattle.mk_base.proofs.Bools.{first_holds, second_holds}
use Rattle.mk_base.proofs.Items.{not_empty}

-- ---- no links

unlinked_by : (n : ℕ) (b : Begin) → is_local b ≡ true → (if not (is_local b) then Some (record { 0 = n }) else None) ≡ (let none : Option LinkNo = None in none)
unlinked_by n (Command t) e = absurd (true≢false (sym e))
unlinked_by n (Connect p) e = absurd (true≢false (sym e))
unlinked_by n (Local k) e = refl

unlinked_in : (n : ℕ) (sims : List SimPart) (i : ℕ) → list_all (λ (s : SimPart). is_local s.begin) sims ≡ true → option_and_then (λ (s : SimPart). if has_link s then Some (record { 0 = n }) else None) (slice_get sims i) ≡ (let none : Option LinkNo = None in none)
unlinked_in n [] i all = refl
unlinked_in n (s ∷ sims) zero all = unlinked_by n s.begin (first_holds (is_local s.begin) (list_all (λ (s : SimPart). is_local s.begin) sims) all)
unlinked_in n (s ∷ sims) (suc i) all = unlinked_in n sims i (second_holds (is_local s.begin) (list_all (λ (s : SimPart). is_local s.begin) sims) all)

-- no simulator has a link
pub unlinked : (started : ℕ) (S : Scenario) → is_wholly_within S ≡ true → (i : ℕ) → sim_link started S i ≡ None
unlinked started S all i = unlinked_in (started + length (filter has_link (take i S.sims))) S.sims i all

-- so it is none's
pub never_linked : (started : ℕ) (S : Scenario) → is_wholly_within S ≡ true → (i : ℕ) (l : LinkNo) → sim_link started S i ≡ Some l → ⊥
never_linked started S all i l e = none_some (sym (unlinked started S all i) ∙ e)

placed_by : (n : ℕ) (b : Begin) → is_local b ≡ true → place_of n b ≡ None
placed_by n (Command t) e = absurd (true≢false (sym e))
placed_by n (Connect p) e = absurd (true≢false (sym e))
placed_by n (Local k) e = refl

placed_in : (n : ℕ) (sims : List SimPart) → list_all (λ (s : SimPart). is_local s.begin) sims ≡ true → no_links sims ≡ places n sims
placed_in n [] all = refl
placed_in n (s ∷ sims) all =
    ap (λ (ps : List (Option LinkNo)). None ∷ ps) (placed_in (n + link_count (place_of n s.begin)) sims (second_holds (is_local s.begin) (list_all (λ (s : SimPart). is_local s.begin) sims) all))
    ∙ ap (λ (p : Option LinkNo). p ∷ places (n + link_count (place_of n s.begin)) sims) (sym (placed_by n s.begin (first_holds (is_local s.begin) (list_all (λ (s : SimPart). is_local s.begin) sims) all)))

here_in : (sims : List SimPart) (i : ℕ) → list_all (λ (s : SimPart). is_local s.begin) sims ≡ true → i < length sims → unwrap_or (option_map (λ (s : SimPart). is_local s.begin) (slice_get sims i)) false ≡ true
here_in [] i all low = absurd (omega (arith, low))
here_in (s ∷ sims) zero all low = first_holds (is_local s.begin) (list_all (λ (s : SimPart). is_local s.begin) sims) all
here_in (s ∷ sims) (suc i) all low = here_in sims i (second_holds (is_local s.begin) (list_all (λ (s : SimPart). is_local s.begin) sims) all) (omega (arith, low))

-- each simulator is within the program
pub within_low : (S : Scenario) → is_wholly_within S ≡ true → (i : ℕ) → i < length S.sims → is_within S i ≡ true
within_low S all i low = here_in S.sims i all low

-- the places that a start leaves are these
pub unplaced : (started : ℕ) (S : Scenario) → is_wholly_within S ≡ true → no_links S.sims ≡ places started S.sims
unplaced started S all = placed_in started S.sims all

-- they have no channels
pub no_channels : (sims : List SimPart) (i : ℕ) → at (new_channels (no_links sims)) i ≡ None
no_channels [] i = refl
no_channels (s ∷ sims) zero = refl
no_channels (s ∷ sims) (suc i) = no_channels sims i

-- nor links
pub linkless_places : (sims : List SimPart) → links_in (no_links sims) ≡ []
linkless_places [] = refl
linkless_places (s ∷ sims) = linkless_places sims

-- a crew without channels says nothing when it is stopped
pub silently : (risen : Type 0) (C : CrewSeen) → ((i : ℕ) → at C.channels i ≡ None) → AreStopped [] risen (crew_of C)
silently risen C none i w there = absurd (none_some (sym (none i) ∙ there))

pub restless : IsRestless []
restless before after is = not_empty before after Rest is

-- ---- one fault or want of memory

pub within_halt : (e : SetupFault) → IsWithinHalt (setup_halt e)
within_halt (fault.Meta sim f) = tt
within_halt (fault.Create sim f) = tt
within_halt (fault.Connect f) = tt
within_halt (fault.Unasked sim) = tt
within_halt (fault.Failed sim text) = tt
within_halt fault.Mem = tt

-- ---- what is left behind it

-- the handshake ended early
pub halted_within : (started : ℕ) (S : Scenario) (ranks : List ℕ) (rows : List Turn) (faults new_faults : ℕ) (h : Halt) (C : CrewSeen) → ((i : ℕ) → at C.channels i ≡ None) → IsHalting (attempt started S ranks rows []) ⊥ h C → HasHalted (attempt started S ranks rows []) (HasRisen faults new_faults) h
halted_within started S ranks rows faults new_faults h C none g = halted started S ranks rows [] [] ⊥ (HasRisen faults new_faults) h C g (silently (HasRisen faults new_faults) C none) restless tt (λ e. absurd e)
