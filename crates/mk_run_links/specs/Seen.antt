-- What contracts see of a run's links.
use Rattle.std.specs.Prelude.{Option}
use Rattle.mk_run_links.specs.declared.answers.LinkHalt.{LinkHalt}
use Rattle.mk_run_links.specs.Places.{Channels}

-- their channels, and the halt that is answered again
pub record Seen : Type 0 where
  pub channels : Channels
  pub halt : Option LinkHalt
