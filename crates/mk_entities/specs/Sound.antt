-- What each entity that is added is sure to have.
use Rattle.std.specs.Prelude.{ℕ, ◌<◌, IsTrue, List, length}
use Rattle.std.specs.List.Sorted.{IsStrictlySortedBy}
use Rattle.std.specs.Ordering.{nat_cmp}
use Rattle.mk_base.specs.Lists.{Each}
use Rattle.mk_base.specs.Names.{is_eid}
use Rattle.mk_entities.specs.declared.entities.EntityInfo.{EntityInfo}

-- one of so many entities has a proper eid, and is related to some of them, named in rising order
pub record IsSound (count : ℕ) (entity : EntityInfo) : Type 0 where
  pub eid : IsTrue (is_eid entity.eid)
  pub rising : IsStrictlySortedBy nat_cmp entity.related
  pub below : Each (λ i. i < count) entity.related

abbrev pub AreSound : List EntityInfo → Type 0
AreSound entities = Each (IsSound (length entities)) entities
