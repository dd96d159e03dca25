-- What follows two tests.
use Rattle.std.proofs.Common.{◌≡◌, Option, Some, None, Result, Ok, inl, inr, ap}
use Rattle.mk_base.specs.Verdicts.{unless}
use Rattle.mk_connect_pairs.specs.declared.fault.ConnectFault.{ConnectFault}
use Rattle.mk_connect_pairs.specs.Faults.{IsFaultOf}

same_ok : {A : Type 0} (x y : A) → ◌≡◌ {A = Result A ConnectFault} (Ok x) (Ok y) → x ≡ y
same_ok x y e = cc

module _ {A B : Type 0} (next : A → Result B ConnectFault) where
  pub paired : (first second : Option ConnectFault) (x y : A) → unless first (unless second (Ok x)) ≡ Ok y → unless first (unless second (next x)) ≡ next y
  paired None None x y e = ap next (same_ok x y e)
  paired None (Some fault) x y e = cc
  paired (Some fault) second x y e = cc

  pub unpaired : (first second : Option ConnectFault) (x : A) (e : ConnectFault) → IsFaultOf (unless first (unless second (Ok x))) e → IsFaultOf (unless first (unless second (next x))) e
  unpaired first second x e (inl mem) = inl mem
  unpaired None None x e (inr wrong) = cc
  unpaired None (Some fault) x e (inr wrong) = inr (cc)
  unpaired (Some fault) second x e (inr wrong) = inr (cc)
