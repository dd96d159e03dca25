-- Answers to the goals of `feeder::Feeder::next` that the prover leaves.
use Rattle.std.proofs.Common.{◌≡◌, ◌-◌, List, ℕ, length, take, drop, refl, ap, subst, ◌∙◌}
use Rattle.std.proofs.lemmas.List.{take_rest}
use Rattle.mk_frame.specs.Frames.{BeginsWithFrame, IsUnfinished}
use Rattle.mk_frame.proofs.OnFrames.{taken, unfinished_not_whole, whole_not_long}
use Rattle.mk_frame.proofs.feeder.Feeder.next.Goals as goal

-- the slice that is looked at is what the feeder holds
held_is : (buffer slice old : List ℕ) (given : ℕ) → slice ≡ buffer → drop given buffer ≡ old → take (length slice - given) (drop given slice) ≡ old
held_is buffer slice old given same is = take_rest slice given ∙ ap (drop given) same ∙ is

frame : (c : goal.After-forget) → BeginsWithFrame c.args.self.now c.in_ok-payload-in-Whole.payload.items c.forget.new.self
frame c =
    let front = c.in-Whole.ensures in
    let n = c.in-Whole.length in
    taken c.self.inside.buffer.items c.args.self.now _ c.forget.new.self c.in_ok-payload-in-Whole.payload.items c.self.inside.given n
    (held_is c.self.inside.buffer.items c.deref.result.now c.args.self.now c.self.inside.given c.deref.ensures.value c.self.view_is)
    c.self.view_is (front.allowed n refl) (front.there n refl) (front.header n refl) c.in_ok-payload-in-Whole.ensures.items c.forget.ensures

pub returns-in-Unfinished-clause-not_yet : goal.returns-in-Unfinished-clause-not_yet
returns-in-Unfinished-clause-not_yet c =
    let same = held_is c.self.inside.buffer.items c.deref.result.now c.args.self.now c.self.inside.given c.deref.ensures.value c.self.view_is in
    let P : List ℕ → Type 0 = λ held. IsUnfinished held in
    (λ _. subst P same (c.in-Unfinished.ensures.unfinished refl), λ _. refl)

pub returns-in_ok-payload-in-Whole-clause-answer :
    goal.returns-in_ok-payload-in-Whole-clause-answer
returns-in_ok-payload-in-Whole-clause-answer c = frame c

pub returns-in_ok-payload-in-Whole-clause-not_yet :
    goal.returns-in_ok-payload-in-Whole-clause-not_yet
returns-in_ok-payload-in-Whole-clause-not_yet c =
    (λ e. cc, λ unfinished. absurd (unfinished_not_whole _ _ _ unfinished (frame c)))

pub returns-in_ok-payload-in-Whole-clause-too_long :
    goal.returns-in_ok-payload-in-Whole-clause-too_long
returns-in_ok-payload-in-Whole-clause-too_long c n =
    (λ e. cc, λ long. absurd (whole_not_long _ _ _ n (frame c) long))
