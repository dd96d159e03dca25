-- Each kind's metadata, read.
use Rattle.std.proofs.Common.{refl}
use Rattle.mk_base.proofs.OnTrees.{trees_compute}
use Rattle.mk_local.specs.Accepted.{IsMetadataAccepted}
use Rattle.mk_local.specs.declared.turn.Turn.TheVariants.{Constant, Counter, Sum, Relay, Battery, Controller}

pub accepted : IsMetadataAccepted
unfolding trees_compute
accepted Constant = refl
accepted Counter = refl
accepted Sum = refl
accepted Relay = refl
accepted Battery = refl
accepted Controller = refl
