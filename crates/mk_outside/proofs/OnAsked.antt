-- Laws of what a fleet was asked.
use Rattle.std.proofs.Common.{◌≡◌, List, ◌++◌, Option, None, Some, sym, ap, ◌∙◌, subst, append_assoc}
use Rattle.mk_outside.specs.Asked.{Asked, Asks}

-- what two calls ask, one after the other
pub asks_more : (first second : List Asked) (old mid new : Option (List Asked)) → Asks first old mid → Asks second mid new → Asks (first ++ second) old new
asks_more first second old mid None one two = tt
asks_more first second old None (Some after) one (before, is, grown) = cc
asks_more first second old (Some between) (Some after) (start, was, grew) (before, is, grown) =
    let same : between ≡ before = cc in
    (start, was, grown ∙ ap (λ b. b ++ second) (sym same ∙ grew) ∙ append_assoc start first second)

-- a call between asks nothing
pub asks_still : (first : List Asked) (old mid new : Option (List Asked)) → Asks first old mid → new ≡ mid → Asks first old new
asks_still first old mid new one same = subst (Asks first old) (sym same) one
