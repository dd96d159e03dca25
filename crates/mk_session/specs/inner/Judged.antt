-- For proofs alone. What came of reading a payload.
use Rattle.std.specs.Prelude.{◌≡◌, Option, None, Some, ℕ, Ok, Err}
use Rattle.std.specs.Global.{Vec}
use Rattle.mk_message.specs.Messages.{message_of}
use Rattle.mk_session.specs.declared.inbox.Given.{Given}
use Rattle.mk_session.specs.declared.inbox.Given.TheVariants as given

-- a payload with a message is given up, every other one is kept
abbrev pub JudgedAs : Given → Vec ℕ → Option (Vec ℕ) → Type 0
JudgedAs (given.Message message) payload kept = (message_of payload.items ≡ Ok message)
    × (kept ≡ None)
JudgedAs (given.Garbled test) payload kept = (message_of payload.items ≡ Err test)
    × (kept ≡ Some payload)
JudgedAs (given.TooLong n) payload kept = ⊥
JudgedAs given.NotYet payload kept = ⊥
JudgedAs given.Mem payload kept = kept ≡ Some payload
