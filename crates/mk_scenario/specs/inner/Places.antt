-- For proofs alone. Beside `Places`, which has what a reader needs.
use Rattle.std.specs.Prelude.{◌≡◌, ℕ, List, String}
use Rattle.std.specs.HashMap.{HashMap, get_by_text}
use Rattle.mk_scenario.specs.Places.{place_in}

-- under each text the map has its place among these ids
abbrev pub HasPlaces : {Y S : Type 0} → HashMap (String Y) ℕ S → List (List ℕ) → Type 0
HasPlaces places ids = (id : List ℕ) → get_by_text places id ≡ place_in ids id
