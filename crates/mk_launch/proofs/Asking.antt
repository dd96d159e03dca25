-- What is asked for one simulator more.
use Rattle.std.proofs.Common.{◌≡◌, ℕ, ◌+◌, ◌<◌, List, [], ◌∷◌, ◌++◌, length, take, get_or, refl, sym, ap, ◌∙◌, subst, inl, inr, append_assoc}
use Rattle.std.proofs.lemmas.List.{append-nil}
use Rattle.std.proofs.lemmas.Option.{slice_get_read}
use Rattle.mk_outside.specs.declared.fleet.Start.{Start}
use Rattle.mk_outside.specs.declared.fleet.Start.TheVariants as start
use Rattle.mk_outside.specs.Asked.{Asked, to_listen}
use Rattle.mk_scenario.specs.declared.parts.Begin.TheVariants.{Command, Connect}
use Rattle.mk_scenario.specs.declared.parts.SimPart.{SimPart}
use Rattle.mk_launch.specs.declared.starting.Begun.{Begun}
use Rattle.mk_launch.specs.declared.starting.Begun.TheVariants.{Place, Failed, Mem}
use Rattle.mk_launch.specs.Asking.{AsksFor, AsksForAll, AsksSome, AsksUpTo, IsCommand}
use Rattle.mk_launch.specs.inner.Starting.{BegunAsks, begun_asks}
use Rattle.mk_launch.proofs.Placing.{take_one_more}

-- a command's words were asked for, or refused
pub asks_command : (r : Begun) (template : List ℕ) (port : ℕ) (begin : Start) → IsCommand template port begin → BegunAsks r (Command template) (to_listen port ∷ begun_asks r begin)
asks_command (Place place) template port begin is = (port, begin, is, refl)
asks_command Failed template port begin is = inr (inr (port, refl, tt))
asks_command Mem template port begin is = inr (inr (port, refl, tt))

-- so was a connection
pub asks_connect : (r : Begun) (port : ℕ) → BegunAsks r (Connect port) (begun_asks r (start.Connect port))
asks_connect (Place place) port = refl
asks_connect Failed port = inr (inl refl)
asks_connect Mem port = inr (inl refl)

-- one simulator more
for_push : (sims : List SimPart) (sim : SimPart) (asks now : List Asked) → AsksForAll sims asks → AsksFor sim.begin now → AsksForAll (sims ++ sim ∷ []) (asks ++ now)
for_push [] sim asks now is all = (now, [], ap (λ (a : List Asked). a ++ now) is ∙ sym (append-nil now), all, refl)
for_push (s ∷ sims) sim asks now (first, later, parts, this, more) all = (
  first,
  later ++ now,
  ap (λ (a : List Asked). a ++ now) parts ∙ append_assoc first later now,
  this,
  for_push sims sim later now more all,
)

pub for_one_more : (sims : List SimPart) (i : ℕ) (sim : SimPart) (asks now : List Asked) → i < length sims → sim ≡ get_or sims i sim → AsksForAll (take i sims) asks → AsksFor sim.begin now → AsksForAll (take (i + 1) sims) (asks ++ now)
for_one_more sims i sim asks now within is so_far all = subst (λ (xs : List SimPart). AsksForAll xs (asks ++ now)) (sym (take_one_more sims i sim within is)) (for_push (take i sims) sim asks now so_far all)

-- the start of the next one came to nothing
pub up_to : (sims : List SimPart) (i : ℕ) (sim : SimPart) (asks now : List Asked) → i < length sims → sim ≡ get_or sims i sim → AsksForAll (take i sims) asks → AsksSome sim.begin now → AsksUpTo i sims (asks ++ now)
up_to sims i sim asks now within is so_far some = record {
  first = asks;
  last = now;
  parts = refl;
  before = so_far;
  sim = sim;
  there = slice_get_read sims (length sims) i sim refl within is;
  some = some;
}
