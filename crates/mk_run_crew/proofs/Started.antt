-- How many links were started.
use Rattle.std.proofs.Common.{◌≡◌, ℕ, suc, ◌+◌, ◌<◌, ◌≤◌, not, Bool, true, cond, List, [], ◌∷◌, ◌++◌, take, length, length-append, length-take-le, Option, Err, refl, sym, ap, ◌∙◌, subst, ◌⊎◌, inl, inr, arith}
use Rattle.std.specs.Prelude.{option_to_list, filter}
use Rattle.std.specs.List.{list_all}
use Rattle.mk_base.specs.declared.LinkNo.{LinkNo}
use Rattle.mk_scenario.specs.declared.parts.SimPart.{SimPart}
use Rattle.mk_scenario.specs.declared.parts.Scenario.{Scenario}
use Rattle.mk_scenario.specs.declared.parts.Begin.{Begin}
use Rattle.mk_scenario.specs.declared.parts.Begin.TheVariants.{Command, Connect, Local}
use Rattle.mk_launch.specs.declared.faults.StartFault.{StartFault}
use Rattle.mk_launch.specs.declared.faults.StartFault.TheVariants.{Failed, Mem}
use Rattle.mk_launch.specs.Starts.{AllStarted, Links, link_count, links_in, place_of, places}
use Rattle.mk_run_laws.specs.Handshake.{has_link, is_local}
use Rattle.mk_run_crew.specs.declared.halt.Halt.{Halt}
use Rattle.mk_run_crew.specs.declared.halt.Halt.TheVariants as halt
use Rattle.mk_run_crew.specs.Started.{IsOfStart, StartsLinks}
use Rattle.mk_run_crew.specs.Wholly.{is_wholly_within}
use Rattle.mk_base.proofs.Bools.{first_holds, second_holds}

one_at_most : (n : ℕ) (b : Begin) → link_count (place_of n b) ≤ 1
one_at_most n (Command t) = let e : 1 ≤ 1 = omega arith in e
one_at_most n (Connect port) = let e : 1 ≤ 1 = omega arith in e
one_at_most n (Local kind) = let e : 0 ≤ 1 = omega arith in e

-- no more links than simulators
few_links : (n : ℕ) (sims : List SimPart) → length (links_in (places n sims)) ≤ length sims
few_links n [] = let e : 0 ≤ 0 = omega arith in e
few_links n (s ∷ sims) =
    let one = one_at_most n s.begin in
    let more = few_links (n + link_count (place_of n s.begin)) sims in
    subst (λ (k : ℕ). k ≤ suc (length sims)) (sym (length-append (option_to_list (place_of n s.begin)) (links_in (places (n + link_count (place_of n s.begin)) sims)))) (omega (arith, one, more))

-- those of all simulators that have one
links_total : (n : ℕ) (sims : List SimPart) → length (links_in (places n sims)) ≡ length (filter has_link sims)
links_total n [] = refl
links_total n (s ∷ sims) = elim s.begin as (λ b. length (option_to_list (place_of n b) ++ links_in (places (n + link_count (place_of n b)) sims)) ≡ length (cond (not (is_local b)) (s ∷ filter has_link sims) (filter has_link sims))) [
  | Command t ↦ ap suc (links_total (n + 1) sims)
  | Connect port ↦ ap suc (links_total (n + 1) sims)
  | Local kind ↦ links_total (n + 0) sims
]

-- ---- where all were started

pub all_started : (S : Scenario) (old new : ℕ) (put : List (Option LinkNo)) (fewer : Type 0) → put ≡ places old S.sims → new ≡ old + length (links_in put) → StartsLinks S old new fewer
all_started S old new put fewer is count =
    let few : length (links_in put) ≤ length S.sims = subst (λ (ps : List (Option LinkNo)). length (links_in ps) ≤ length S.sims) (sym is) (few_links old S.sims) in
    record {
      some = omega (arith, count);
      most = omega (arith, count, few);
      all = λ none. count ∙ ap (λ (n : ℕ). old + n) (ap (λ (ps : List (Option LinkNo)). length (links_in ps)) is ∙ links_total old S.sims);
    }

linkless_total : (sims : List SimPart) → list_all (λ (s : SimPart). is_local s.begin) sims ≡ true → length (filter has_link sims) ≡ 0
linkless_total [] all = refl
linkless_total (s ∷ sims) all = ap (λ (b : Bool). length (cond (not b) (s ∷ filter has_link sims) (filter has_link sims))) (first_holds (is_local s.begin) (list_all (λ (t : SimPart). is_local t.begin) sims) all)
    ∙ linkless_total sims (second_holds (is_local s.begin) (list_all (λ (t : SimPart). is_local t.begin) sims) all)

-- none is to be started
pub none_started : (S : Scenario) (old : ℕ) (fewer : Type 0) → is_wholly_within S ≡ true → StartsLinks S old old fewer
none_started S old fewer all = record {
  some = omega arith;
  most = omega arith;
  all = λ none. subst (λ (n : ℕ). old ≡ old + n) (sym (linkless_total S.sims all)) (let e : old ≡ old + 0 = omega arith in e);
}

-- ---- where fewer may have been

-- of the first simulators alone
few_first : (n k : ℕ) (sims : List SimPart) (put : List (Option LinkNo)) → put ≡ places n (take k sims) → k < length sims → length (links_in put) ≤ k
few_first n k sims put is less =
    subst (λ (m : ℕ). length (links_in put) ≤ m) (length-take-le k sims (omega (arith, less))) (subst (λ (ps : List (Option LinkNo)). length (links_in ps) ≤ length (take k sims)) (sym is) (few_links n (take k sims)))

pub few_started : (fault : StartFault) (sims : List SimPart) (old new : Links) (put : List (Option LinkNo)) → AllStarted (Err fault) sims old new put → (old.started ≤ new.started) × (new.started ≤ old.started + length sims)
few_started (Failed sim) sims old new put all =
    let few = few_first old.started sim.0 sims put (all.1).places all.0 in
    let count = (all.1).started in
    let less = all.0 in
    (omega (arith, count), omega (arith, count, few, less))
few_started Mem sims old new put all = elim all.2 [
  | inl t ↦
      let few = few_first old.started all.0 sims put t.places all.1 in
      let count = t.started in
      let less = all.1 in
      (omega (arith, count), omega (arith, count, few, less))
  | inr t ↦
      let few = few_first old.started all.0 sims put t.places all.1 in
      let count = t.started in
      let less = all.1 in
      (omega (arith, count), omega (arith, count, few, less))
]

-- before any channel is there
pub fewer_started : (S : Scenario) (h : Halt) (risen : Type 0) (old new : ℕ) → (h ≡ halt.Mem) ⊎ ((h ≡ halt.Fleet) × risen) → (old ≤ new) × (new ≤ old + length S.sims) → StartsLinks S old new (IsOfStart h [])
fewer_started S h risen old new why count = record { some = count.0; most = count.1; all = λ none. absurd (none (refl, elim why [ inl q ↦ inr q | inr t ↦ inl t.0 ])) }

-- what may have kept some from being started is what was named
pub started_unless : (S : Scenario) (old new : ℕ) (some all : Type 0) → (some → all) → StartsLinks S old new some → StartsLinks S old new all
started_unless S old new some all on s = record { some = s.some; most = s.most; all = λ none. s.all (λ few. none (on few)) }
