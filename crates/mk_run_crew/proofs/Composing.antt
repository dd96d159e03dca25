-- The begin of a crew, from the start of its links to the first request.
use Rattle.std.proofs.Common.{◌≡◌, ℕ, suc, ◌<◌, ◌≤◌, ◌^◌, ◌+◌, List, [], ◌∷◌, ◌++◌, length, Option, None, slice_get, refl, sym, ap, ◌∙◌, subst, arith}
use Rattle.mk_base.specs.declared.LinkNo.{LinkNo}
use Rattle.mk_base.specs.Lists.{IsIn}
use Rattle.mk_base.proofs.Lists.{in_back}
use Rattle.mk_scenario.specs.declared.parts.SimPart.{SimPart}
use Rattle.mk_scenario.specs.declared.parts.Scenario.{Scenario}
use Rattle.mk_launch.specs.Starts.{link_count, links_in, place_of, places}
use Rattle.mk_local.specs.declared.turn.Turn.{Turn}
use Rattle.mk_setup.specs.Seen.{SetupState}
use Rattle.mk_run_links.specs.Places.{AreDistinct, PlacesAreDistinct, new_channels}
use Rattle.mk_run_links.specs.Seen.{Seen}
use Rattle.mk_run_local.specs.Seen.{AreOf, WithinState, new_within}
use Rattle.mk_run_crew.specs.inner.Asking.{IsNewCrew}
use Rattle.mk_run_crew.specs.inner.Placed.{IsPlaced}
use Rattle.mk_run_crew.specs.Seen.{CrewSeen}
use Rattle.mk_run_crew.proofs.Placing.{new_placed}
use Rattle.mk_run_crew.proofs.Simulators.{link_in_places, link_placed}

count_places : (n : ℕ) (sims : List SimPart) → length (places n sims) ≡ length sims
count_places n [] = refl
count_places n (s ∷ sims) = ap suc (count_places (n + link_count (place_of n s.begin)) sims)

-- there are few places
pub few_places : (n : ℕ) (sims : List SimPart) (put given : List (Option LinkNo)) → put ≡ places n sims → given ≡ put → length sims ≤ 200 → length given < 2 ^ 32
few_places n sims put given is same few = let size = ap length same ∙ ap length is ∙ count_places n sims in omega (arith, size, few)

-- each has its channel
pub places_channelled : (n : ℕ) (sims : List SimPart) (put given : List (Option LinkNo)) (L : Seen) → PlacesAreDistinct → put ≡ places n sims → given ≡ put → L ≡ record { channels = new_channels given; halt = None } → IsPlaced put L.channels
places_channelled n sims put given L distinct is same channelled =
    subst (IsPlaced put) (sym (ap (λ (X : Seen). X.channels) channelled ∙ ap new_channels same)) (new_placed put (subst AreDistinct (sym is) (distinct n sims)))

-- the crew is new
pub crew_is_new : (started : ℕ) (rows : List Turn) (S : Scenario) (U : SetupState) (put given : List (Option LinkNo)) (old open_links : List LinkNo) (L : Seen) (W : WithinState) → put ≡ places started S.sims → given ≡ put → open_links ≡ old ++ links_in put
    → L ≡ record { channels = new_channels given; halt = None } → W ≡ new_within rows S → AreOf rows W → U.scenario ≡ S → IsNewCrew started rows U.scenario open_links (record { places = put; channels = L.channels; sims = W.sims; kept = W.kept; halt = L.halt })
crew_is_new started rows S U put given old open_links L W is same all channelled within known scenario = subst (λ (X : Scenario). IsNewCrew started rows X open_links C) (sym scenario) (record {
  places = is;
  channels = ap (λ (X : Seen). X.channels) channelled ∙ ap new_channels same;
  within = within;
  known = known;
  halt = ap (λ (X : Seen). X.halt) channelled;
  are_open = λ i l e. subst (IsIn l) (sym all) (in_back l old (links_in put) (link_in_places put i l (ap (λ (ps : List (Option LinkNo)). slice_get ps i) is ∙ link_placed started S i l e)));
})
  where
    C : CrewSeen
    C = record { places = put; channels = L.channels; sims = W.sims; kept = W.kept; halt = L.halt }
