-- For proofs alone. Beside `Fronts`, which has what a reader needs.
use Rattle.std.specs.Prelude.{◌≡◌, ℕ, List}
use Rattle.mk_frame.specs.Frames.{IsTooLong, IsUnfinished}
use Rattle.mk_session.specs.declared.inbox.Given.{Given}
use Rattle.mk_session.specs.declared.inbox.Given.TheVariants as given
use Rattle.mk_session.specs.Fronts.{BeginsGarbled, BeginsWithMessage}

-- a message was taken off the front, or why none was
abbrev pub GivenAs : Given → List ℕ → List ℕ → Type 0
GivenAs (given.Message message) old new = BeginsWithMessage old message new
GivenAs (given.Garbled test) old new = (new ≡ old) × BeginsGarbled new test
GivenAs (given.TooLong n) old new = (new ≡ old) × IsTooLong n new
GivenAs given.NotYet old new = (new ≡ old) × IsUnfinished new
GivenAs given.Mem old new = new ≡ old
