-- The demo scenario of each size is well-formed, since that of size 1 is read from a file.
use Rattle.std.proofs.Common.{◌≡◌, ℕ, zero, suc, ◌≤◌, true, refl, sym, ◌∙◌, arith, slice_index_or, Result, Ok, Err, IfOk, subst}
use Rattle.std.proofs.lemmas.Int.{ints}
use Rattle.std.specs.Prelude.{codes}
use Rattle.mk_base.specs.Limits.{largest_demo}
use Rattle.mk_base.specs.Trees.{is_in_range}
use Rattle.mk_base.proofs.OnTrees.{trees_compute}
use Rattle.mk_scenario.specs.declared.parts.Group.{Group}
use Rattle.mk_scenario.specs.declared.parts.Scenario.{Scenario}
use Rattle.mk_scenario.specs.Wellformed.{IsWellformed}
use Rattle.mk_scenario.proofs.Wellformedness.{scenario_is_wellformed}
use Rattle.mk_scenario_demo.specs.Demo.{demo_scenario, groups, one}
use Rattle.mk_scenario_demo.proofs.Rows.{document, document_is_the_demo}

first : IsWellformed (demo_scenario 1)
unfolding trees_compute
first = scenario_is_wellformed document (demo_scenario 1) refl document_is_the_demo

-- the households' parameter is a number that a tree may have
start_in_range : (size : ℕ) → size ≤ largest_demo → is_in_range (one (codes "start") size) ≡ true
unfolding trees_compute
start_in_range size high = grind (arith, ints)

-- the groups have the same ids at each size
same_id : (size i : ℕ) (d : Group) → (slice_index_or (groups size) i d).id ≡ (slice_index_or (groups 1) i d).id
same_id size zero d = refl
same_id size (suc zero) d = refl
same_id size (suc (suc zero)) d = refl
same_id size (suc (suc (suc zero))) d = refl
same_id size (suc (suc (suc (suc zero)))) d = refl
same_id size (suc (suc (suc (suc (suc zero))))) d = refl
same_id size (suc (suc (suc (suc (suc (suc i)))))) d = refl

pub wellformed : (size : ℕ) → 1 ≤ size → size ≤ largest_demo → IsWellformed (demo_scenario size)
unfolding trees_compute
wellformed size low high =
    let g = first.groups.0 in
    let a = first.blocks.0 in
    let b = first.blocks.1.0 in
    let c = first.blocks.1.1.0 in
    let d = first.blocks.1.1.1.0 in
    let e = first.blocks.1.1.1.1.0 in
    let f = first.blocks.1.1.1.1.1.0 in
    record {
      until = (omega (arith, ints, low), omega (arith, ints, high));
      loops = first.loops;
      entries = first.entries;
      sim_count = first.sim_count;
      group_count = first.group_count;
      block_count = first.block_count;
      ids = first.ids;
      sims = first.sims;
      groups = (record { id = g.id; sim = g.sim; num = g.num; params = (refl, start_in_range size high, (refl, tt)) }, first.groups.1);
      group_ids = λ i j x below within same. first.group_ids i j x below within (sym (same_id size i x) ∙ same ∙ same_id size j x);
      blocks = (
        record { from = a.from; to = a.to; sides = a.sides; width = a.width; kind = a.kind; initial = a.initial; delayed = a.delayed; fed = a.fed },
        (
          record { from = b.from; to = b.to; sides = b.sides; width = b.width; kind = b.kind; initial = b.initial; delayed = b.delayed; fed = b.fed },
          (
            record { from = c.from; to = c.to; sides = c.sides; width = c.width; kind = c.kind; initial = c.initial; delayed = c.delayed; fed = c.fed },
            (
              record { from = d.from; to = d.to; sides = d.sides; width = d.width; kind = d.kind; initial = d.initial; delayed = d.delayed; fed = d.fed },
              (
                record { from = e.from; to = e.to; sides = e.sides; width = e.width; kind = e.kind; initial = e.initial; delayed = e.delayed; fed = e.fed },
                (
                  record { from = f.from; to = f.to; sides = f.sides; width = f.width; kind = f.kind; initial = f.initial; delayed = f.delayed; fed = f.fed },
                  tt,
                ),
              ),
            ),
          ),
        ),
      );
    }

pub wellformed_where_made : {E : Type 0} (size : ℕ) → 1 ≤ size → size ≤ largest_demo → (r : Result Scenario E) → IfOk r (λ s. s ≡ demo_scenario size) → IfOk r (λ s. IsWellformed s)
wellformed_where_made size low high (Ok s) is = subst IsWellformed (sym is) (wellformed size low high)
wellformed_where_made size low high (Err e) is = tt
