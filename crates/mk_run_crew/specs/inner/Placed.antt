-- For proofs alone. How the places of links stand to their channels.
use Rattle.std.specs.Prelude.{◌≡◌, ℕ, List, Option, Some, slice_get}
use Rattle.mk_base.specs.declared.LinkNo.{LinkNo}
use Rattle.mk_run_laws.specs.Channels.{Channel}
use Rattle.mk_run_links.specs.Places.{AreDistinct, Channels, at}

-- the places have distinct links, and each link that has a place has its channel there
pub record IsPlaced (places : List (Option LinkNo)) (channels : Channels) : Type 0 where
  pub distinct : AreDistinct places
  pub channel : (i : ℕ) (l : LinkNo) → slice_get places i ≡ Some (Some l) → (w : Channel)
      × (at channels i ≡ Some w) × (w.link ≡ l)
