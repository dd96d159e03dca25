-- A link that was started is open, and so is each that was open before.
use Rattle.std.proofs.Common.{◌≡◌, List, [], ◌∷◌, ◌++◌, sym, subst}
use Rattle.mk_base.specs.declared.LinkNo.{LinkNo}
use Rattle.mk_base.specs.Lists.{IsIn}
use Rattle.mk_base.proofs.Lists.{in_front}

pub stays_open : (link other : LinkNo) (before after : List LinkNo) → after ≡ before ++ other ∷ [] → IsIn link before → IsIn link after
stays_open link other before after is there = subst (IsIn link) (sym is) (in_front link before (other ∷ []) there)
