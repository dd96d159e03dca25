-- For proofs alone. A journal over what a record says can be recorded.
use Rattle.std.proofs.Common.{◌≡◌, ℕ, ◌≤◌, ◌==◌, ◌&&◌, nat_lt, ℤ, pos, ◌≤ℤ◌, Bool, true, List, [], ◌∷◌, length, Option, refl, sym, subst, arith}
use Rattle.std.specs.List.{list_all}
use Rattle.std.proofs.lemmas.Bool.{and_parts, and_from, lt-ltb}
use Rattle.std.proofs.lemmas.Int.{ints}
use Rattle.std.proofs.lemmas.List.Sums.{length-filter}
use Rattle.mk_base.specs.Lists.{Each}
use Rattle.mk_plan.specs.declared.Plan.{Plan}
use Rattle.mk_plan.specs.declared.PlanModel.{PlanModel}
use Rattle.mk_plan.specs.declared.Item.TheVariants.{Step, GetData, Answer, Refuse}
use Rattle.mk_plan.specs.declared.Entry.{Entry}
use Rattle.mk_plan.specs.declared.Entry.TheVariants.{Sent, Got}
use Rattle.mk_plan.specs.Plans.{IsValidPlan, sim_count}
use Rattle.mk_plan.specs.Journals.{Arrival, arrivals}
use Rattle.mk_plan.specs.Orderly.{IsEager}
use Rattle.mk_base.specs.declared.tier.Tier.{Tier}
use Rattle.mk_plan_check.specs.Tests as tests
use Rattle.mk_plan_check.proofs.Meaning.{from_well_formed}
use Rattle.mk_record_read.specs.declared.saved.Asked.{Asked}
use Rattle.mk_record_read.specs.Entries.{StepOf, entries_of}
use Rattle.mk_record_read.specs.Reading.{reading, Said}
use Rattle.mk_record_laws.specs.Again.{IsRecordable, entry_fits}
use Rattle.mk_record_laws.proofs.Counting.{all_counted}
use Rattle.mk_record_laws.proofs.Steps.{StepFits, EntryFits, steps_fit}
use Rattle.mk_record_laws.proofs.Texts.{CanBeSaid, said_well}
use Rattle.mk_base.proofs.Counts.{between_test}

step_line : (P : Plan) (s : ℕ) (x : Tier) (advance : ℤ) → StepFits P s x advance → entry_fits P (StepOf s x advance) ≡ true
step_line P s x advance h =
    let tier : (pos 0 ≤ℤ pos x.tier) × (pos x.tier ≤ℤ pos 1000) = (let t = h.tier in (grind (arith, ints, t), grind (arith, ints, t))) in
    and_from _ _ (lt-ltb s (sim_count P) h.sim) (and_from _ _ (and_from _ _ (between_test x.time 1000000000 h.time) (between_test (pos x.tier) 1000 tier)) (between_test advance 1000000000 h.ahead))

entries_fit : (P : Plan) (J : List Entry) → Each (EntryFits P) J → Each CanBeSaid (arrivals J) → list_all (entry_fits P) (entries_of J) ≡ true
entries_fit P [] fits said = refl
entries_fit P (Sent s (Step x ins advance) ∷ J) fits said = and_from _ _ (step_line P s.0 x advance fits.0) (entries_fit P J fits.1 said)
entries_fit P (Sent s (GetData wants) ∷ J) fits said = entries_fit P J fits.1 said
entries_fit P (Sent s (Answer id content) ∷ J) fits said = entries_fit P J fits.1 said
entries_fit P (Sent s (Refuse id reason) ∷ J) fits said = entries_fit P J fits.1 said
entries_fit P (Got s m ∷ J) fits said = and_from _ _ (and_from _ _ (lt-ltb s.0 (sim_count P) fits.0) said.0) (entries_fit P J fits.1 said.1)

entries_few : (J : List Entry) → length (entries_of J) ≤ length J
entries_few [] = omega arith
entries_few (Sent s (Step x ins advance) ∷ J) = let h = entries_few J in omega (arith, h)
entries_few (Sent s (GetData wants) ∷ J) = let h = entries_few J in omega (arith, h)
entries_few (Sent s (Answer id content) ∷ J) = let h = entries_few J in omega (arith, h)
entries_few (Sent s (Refuse id reason) ∷ J) = let h = entries_few J in omega (arith, h)
entries_few (Got s m ∷ J) = let h = entries_few J in omega (arith, h)

-- the models of a valid plan are of its simulators
models_of_sims : (P : Plan) → IsValidPlan P → list_all (λ (m : PlanModel). nat_lt m.sim.0 (length P.sims)) P.models ≡ true
models_of_sims P valid =
    let models : Bool = list_all (λ (m : PlanModel). nat_lt m.sim.0 (length P.sims)) P.models in
    let entities : Bool = list_all (tests.entity_refers P) P.entities in
    let conns : Bool = list_all (tests.conn_refers P) P.conns in
    let asyncs : Bool = list_all (tests.pair_refers P) P.asyncs in
    let a = and_parts (tests.is_within_limits P && tests.refers_inside P) (tests.has_distinct_names P) (from_well_formed P valid.well_formed) in
    let b = and_parts (tests.is_within_limits P) (tests.refers_inside P) a.0 in
    let c = and_parts ((models && entities) && conns) asyncs b.1 in
    let d = and_parts (models && entities) conns c.0 in
    let e = and_parts models entities d.0 in
    e.0

pub models_few : (P : Plan) → IsValidPlan P → length P.models ≤ 2000000
models_few P valid =
    let few = valid.well_formed.limits.sims.1 in
    let all = all_counted (λ (m : PlanModel). m.sim.0) (length P.sims) P.models (models_of_sims P valid) (λ i. subst (λ (n : ℕ). n ≤ 10000) (sym (length-filter (λ (m : PlanModel). m.sim.0 == i) P.models)) (valid.well_formed.limits.models i)) in
    omega (arith, few, all)

pub recordable : (bytes : List ℕ) (P : Plan) (A : List Arrival) (steps : Option (List Asked)) (J : List Entry) → reading bytes ≡ Said P A steps → IsValidPlan P → IsEager P J → arrivals J ≡ A → length J ≤ P.entries → IsRecordable P J
recordable bytes P A steps J read valid eager given within =
    let well = said_well bytes P A steps read in record {
      valid = valid;
      texts = well.texts;
      models = models_few P valid;
      entries = entries_fit P J (steps_fit P valid J eager.0.0) (subst (Each CanBeSaid) (sym given) well.messages);
      count = let few = entries_few J in let limit = valid.well_formed.limits.entries.1 in omega (arith, few, limit, within);
    }
