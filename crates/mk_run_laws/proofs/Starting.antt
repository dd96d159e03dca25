-- The places of links are numbered as the simulators' links are.
use Rattle.std.proofs.Common.{◌≡◌, ℕ, not, zero, suc, ◌+◌, ◌<◌, cond, List, [], ◌∷◌, length, take, Option, Some, None, refl, ap, ◌∙◌, arith}
use Rattle.std.specs.Prelude.{slice_get, filter, option_and_then}
use Rattle.std.proofs.lemmas.Grind.{common_steps}
use Rattle.mk_base.specs.declared.LinkNo.{LinkNo}
use Rattle.mk_scenario.specs.declared.parts.Begin.{Begin}
use Rattle.mk_scenario.specs.declared.parts.Begin.TheVariants.{Command, Connect, Local}
use Rattle.mk_scenario.specs.declared.parts.SimPart.{SimPart}
use Rattle.mk_launch.specs.Starts.{link_count, place_of, places}
use Rattle.mk_run_laws.specs.Handshake.{has_link, is_local}

-- the link of the simulator at place i of these
abbrev link_in : ℕ → List SimPart → ℕ → Option LinkNo
link_in n sims i = option_and_then (λ (s : SimPart). cond (has_link s) (Some (record { 0 = n + length (filter has_link (take i sims)) })) None) (slice_get sims i)

first_is : (n : ℕ) (b : Begin) → place_of n b ≡ cond (not (is_local b)) (Some (record { 0 = n + 0 })) None
first_is n (Command t) = let here : n ≡ n + 0 = omega arith in ap (λ m. Some (record { 0 = m })) here
first_is n (Connect p) = let here : n ≡ n + 0 = omega arith in ap (λ m. Some (record { 0 = m })) here
first_is n (Local k) = refl

with_link : (n : ℕ) (sim : SimPart) (linked : List SimPart) → n + 1 + length linked ≡ n + length (sim ∷ linked)
with_link n sim linked = grind (arith, common_steps)

-- one simulator before the others: the links after it are numbered on
before : (n : ℕ) (sim : SimPart) (b : Begin) (linked : List SimPart) → b ≡ sim.begin → n + link_count (place_of n b) + length linked ≡ n + length (cond (has_link sim) (sim ∷ linked) linked)
before n sim (Command t) linked is = with_link n sim linked ∙ ap (λ (c : Begin). n + length (cond (not (is_local c)) (sim ∷ linked) linked)) is
before n sim (Connect p) linked is = with_link n sim linked ∙ ap (λ (c : Begin). n + length (cond (not (is_local c)) (sim ∷ linked) linked)) is
before n sim (Local k) linked is = let same : n + 0 + length linked ≡ n + length linked = omega arith in same ∙ ap (λ (c : Begin). n + length (cond (not (is_local c)) (sim ∷ linked) linked)) is

after : (m : ℕ) (more : List SimPart) (i : ℕ) (k : ℕ) → m + length (filter has_link (take i more)) ≡ k → link_in m more i ≡ option_and_then (λ (s : SimPart). cond (has_link s) (Some (record { 0 = k })) None) (slice_get more i)
after m more i k e = ap (λ j. option_and_then (λ (s : SimPart). cond (has_link s) (Some (record { 0 = j })) None) (slice_get more i)) e

pub place_is : (n : ℕ) (sims : List SimPart) (i : ℕ) → i < length sims → slice_get (places n sims) i ≡ Some (link_in n sims i)
place_is n [] i within = absurd (omega (arith, within))
place_is n (sim ∷ more) zero within = ap Some (first_is n sim.begin)
place_is n (sim ∷ more) (suc i) within =
    place_is (n + link_count (place_of n sim.begin)) more i (omega (arith, within)) ∙ ap Some (after (n + link_count (place_of n sim.begin)) more i _ (before n sim sim.begin (filter has_link (take i more)) refl))
