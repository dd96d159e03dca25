-- A worked example: what is drawn first where the messages come in the order 5.
use Rattle.std.proofs.Common.{◌≡◌, refl}
use Rattle.mk_record_replay.specs.Orders.{drawn, next_number}

pub first_of_5 : drawn (next_number 5) ≡ 1724882992
first_of_5 = refl
