-- For proofs alone. Beside `Telling`, which has what a reader needs.
use Rattle.std.specs.Prelude.{[], ◌∷◌}
use Rattle.mk_outside.specs.declared.fleet.LogEntry.{LogEntry}
use Rattle.mk_fakes.specs.Telling.{with_entries, Telling}

-- with one more entry
abbrev pub with_entry : LogEntry → Telling → Telling
with_entry e = with_entries (e ∷ [])
