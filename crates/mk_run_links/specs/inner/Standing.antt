-- For proofs alone. How the turns of links stand to the channels of a crew.
use Rattle.std.specs.Prelude.{◌≡◌, ℕ, ◌⊎◌, true, [], Some}
use Rattle.mk_base.specs.Lists.{IsIn}
use Rattle.mk_poll.specs.Turning.{Turning}
use Rattle.mk_run_laws.specs.Channels.{Channel}
use Rattle.mk_run_links.specs.Places.{Channels, at}

-- the channel's link is ready, or the channel is parked and so is its link
abbrev pub HasTurn : Turning → Channel → Type 0
HasTurn t w = IsIn w.link t.ready ⊎ ((w.parked ≡ true) × IsIn w.link t.parked)

-- each link is that of one simulator
abbrev pub AreApart : Channels → Type 0
AreApart channels = (i j : ℕ) (v w : Channel) → at channels i ≡ Some v → at channels j ≡ Some w
    → v.link.0 ≡ w.link.0 → i ≡ j

-- all channels but that of simulator s have their turns, and no link is taken
pub record StandsBut (s : ℕ) (channels : Channels) (t : Turning) : Type 0 where
  pub apart : AreApart channels
  pub turned : (i : ℕ) (w : Channel) → (i ≡ s → ⊥) → at channels i ≡ Some w → HasTurn t w
  pub none_taken : t.taken ≡ []

-- all channels have their turns, and no link is taken
pub record HaveTurns (channels : Channels) (t : Turning) : Type 0 where
  pub apart : AreApart channels
  pub turned : (i : ℕ) (w : Channel) → at channels i ≡ Some w → HasTurn t w
  pub none_taken : t.taken ≡ []
