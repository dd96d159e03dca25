-- For proofs alone. Beside `Fakes`, which has what a reader needs.
use Rattle.mk_fakes.specs.declared.failing.Failing.{Failing}
use Rattle.mk_fakes.specs.Fakes.{next_count}

-- after one more fault
abbrev pub after_fault : Failing → Failing
after_fault f = record { numbers = f.numbers; calls = f.calls; faults = next_count f.faults }
