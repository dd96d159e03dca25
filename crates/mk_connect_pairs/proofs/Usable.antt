-- What a well-formed scenario's blocks and entities are sure to have.
use Rattle.std.proofs.Common.{◌≡◌, ℕ, List, [], ◌∷◌, length, sym, subst}
use Rattle.mk_base.specs.Lists.{Each}
use Rattle.mk_scenario.specs.declared.parts.Block.{Block}
use Rattle.mk_scenario.specs.declared.parts.Group.{Group}
use Rattle.mk_scenario.specs.declared.parts.Place.{Place}
use Rattle.mk_scenario.specs.declared.parts.Place.TheVariants.{Whole, One, Full}
use Rattle.mk_scenario.specs.declared.parts.Scenario.{Scenario}
use Rattle.mk_scenario.specs.Wellformed.{IsPlace, IsWellformed, IsWellformedBlock}
use Rattle.mk_connect_pairs.specs.Usable.{HasGroup, IsUsable}

has_group : (sims : ℕ) (groups : List Group) (place : Place) → IsPlace sims groups place → HasGroup (length groups) place
has_group sims groups (Whole n) is = is
has_group sims groups (One n i) is = is.0
has_group sims groups (Full sim eid) is = tt

blocks_usable : (sims : ℕ) (groups : List Group) (blocks : List Block) → Each (IsWellformedBlock sims groups) blocks → Each (IsUsable (length groups)) blocks
blocks_usable sims groups [] each = tt
blocks_usable sims groups (b ∷ blocks) each = (record { from = has_group sims groups b.from each.0.from; to = has_group sims groups b.to each.0.to; initial = each.0.initial }, blocks_usable sims groups blocks each.1)

pub usable : (S : Scenario) → IsWellformed S → (n : ℕ) → n ≡ length S.groups → (blocks : List Block) → blocks ≡ S.blocks → Each (IsUsable n) blocks
usable S wellformed n count blocks same = subst (λ m. Each (IsUsable m) blocks) (sym count) (subst (Each (IsUsable (length S.groups))) (sym same) (blocks_usable (length S.sims) S.groups S.blocks wellformed.blocks))
