-- For proofs alone. What has been looked up in the data of a reply.
use Rattle.std.specs.Prelude.{◌≡◌, ℕ, List, Some, option_map}
use Rattle.mk_base.specs.Trees.{member}
use Rattle.mk_plan_judge.specs.declared.lookups.Lookups.{Lookups}

-- what is kept for the entity of the last want is what the data give it
abbrev pub HasPart : Lookups → Type 0
HasPart l = (eid : List ℕ) → option_map (λ e. e.now) l.eid ≡ Some eid
    → option_map (λ v. v.now) l.part ≡ member eid l.content.now
