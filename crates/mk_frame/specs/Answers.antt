-- What a feeder holds after each answer.
use Rattle.std.specs.Prelude.{◌≡◌, ℕ, List}
use Rattle.mk_frame.specs.declared.feeder.Framed.{Framed}
use Rattle.mk_frame.specs.declared.feeder.Framed.TheVariants.{Frame, NotYet, TooLong}
use Rattle.mk_frame.specs.Frames.{BeginsWithFrame}

-- a frame that is given is taken off the front; at another answer the bytes are as before
abbrev pub NextOf : List ℕ → Framed → List ℕ → Type 0
NextOf old (Frame payload) new = BeginsWithFrame old payload.items new
NextOf old NotYet new = new ≡ old
NextOf old (TooLong n) new = new ≡ old
