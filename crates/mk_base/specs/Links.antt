-- Words on links.
use Rattle.std.specs.Prelude.{◌==◌, Bool, not, List, filter}
use Rattle.mk_base.specs.declared.LinkNo.{LinkNo}

-- the two are one link
abbrev pub same_link : LinkNo → LinkNo → Bool
same_link one other = one.0 == other.0

-- the links without this one
abbrev pub without : LinkNo → List LinkNo → List LinkNo
without link = filter (λ other. not (same_link other link))
