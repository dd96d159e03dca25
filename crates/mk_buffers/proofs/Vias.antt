-- When delays are the same.
use Rattle.std.proofs.Common.{◌≡◌, ℕ, ◌<◌, true, refl, ap, sym, subst, List, length, get_or, All}
use Rattle.std.proofs.lemmas.Bool.{eqb-true, eq-eqb}
use Rattle.mk_base.specs.declared.tier.Via.{Via}
use Rattle.mk_base.specs.declared.tier.Via.TheVariants.{Plain, Shift, Weak}
use Rattle.mk_base.specs.Tiers.{HasWidth}
use Rattle.mk_base.proofs.Lists.{at_in, all_at}
use Rattle.mk_plan.specs.declared.Plan.{Plan}
use Rattle.mk_plan.specs.declared.Conn.{Conn}
use Rattle.mk_buffers.specs.declared.outlets.Source.{Source}
use Rattle.mk_buffers.specs.declared.inlets.Target.{Target}
use Rattle.mk_buffers.specs.inner.Building.{AreSources}
use Rattle.mk_buffers.specs.inner.Listing.{AreTargets}
use Rattle.mk_buffers_log.proofs.Places.{get_some}
use Rattle.mk_base.specs.contracts.tier.ViaPartialEq as same

pub same_via : (v w : Via) → same.TheImpl.ghosts.eq v w ≡ true → v ≡ w
same_via Plain Plain h = refl
same_via Plain (Shift e) h = cc
same_via Plain Weak h = cc
same_via (Shift d) Plain h = cc
same_via (Shift d) (Shift e) h = ap Shift (eqb-true d e h)
same_via (Shift d) Weak h = cc
same_via Weak Plain h = cc
same_via Weak (Shift e) h = cc
same_via Weak Weak h = refl

pub via_itself : (v w : Via) → v ≡ w → same.TheImpl.ghosts.eq v w ≡ true
via_itself v w e = subst (λ (u : Via). same.TheImpl.ghosts.eq v u ≡ true) e (itself v)
  where
    itself : (v : Via) → same.TheImpl.ghosts.eq v v ≡ true
    itself Plain = refl
    itself (Shift d) = eq-eqb d d refl
    itself Weak = refl

-- the delay of each of the plan's sources is within the limits
pub source_width : (P : Plan) (xs : List Source) (n : ℕ) (s : Source) → All (λ (c : Conn). HasWidth c.via) P.conns → AreSources P xs → n < length xs → s ≡ get_or xs n s → HasWidth s.via
source_width P xs n s widths are below is =
    let of = are.sources.each s (at_in s xs n (get_some xs n s below is)) in
    subst HasWidth (sym of.via) (all_at (λ (c : Conn). HasWidth c.via) P.conns s.place of.conn widths of.at_place)

-- and that of each of its targets
pub target_width : (P : Plan) (outlets : List ℕ) (xs : List Target) (n : ℕ) (t : Target) → All (λ (c : Conn). HasWidth c.via) P.conns → AreTargets P outlets xs → n < length xs → t ≡ get_or xs n t → HasWidth t.conn.now.via
target_width P outlets xs n t widths are below is =
    let at = are.each t (at_in t xs n (get_some xs n t below is)) in
    subst HasWidth (sym (ap (λ (c : Conn). c.via) at.1.is.conn)) (all_at (λ (c : Conn). HasWidth c.via) P.conns at.0 at.1.of widths at.1.at_place)
