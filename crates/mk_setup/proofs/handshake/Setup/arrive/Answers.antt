-- Answers to the goals of `handshake::Setup::arrive` that the prover leaves.
use Rattle.std.proofs.Common.{◌≡◌, ◌∙◌, None, ap, sym, subst, refl}
use Rattle.mk_setup.specs.Answers.{IsRefused}
use Rattle.mk_setup.specs.Kept.{state_of}
use Rattle.mk_setup.specs.Replies.{arrival}
use Rattle.mk_setup.specs.Seen.{SetupState}
use Rattle.mk_setup.proofs.Heard.{no_fault, refused_by}
use Rattle.mk_setup.proofs.handshake.Setup.arrive.Goals as goal

pub returns-in-Err-clause-refused : goal.returns-in-Err-clause-refused
returns-in-Err-clause-refused c =
    let none : c.self.inside.fault ≡ None = no_fault c.self.inside.fault c.in_default.not-Some in
    subst (λ (V : SetupState). IsRefused V (arrival c.args.sim c.args.message.now) c.keep.result (state_of c.take.new.progress c.keep.new.kept)) (ap (state_of c.self.inside.progress) (sym none) ∙ c.self.view_is)
    (refused_by (state_of c.self.inside.progress None) (state_of c.take.new.progress None) (arrival c.args.sim c.args.message.now) c.in-Err.fault c.keep.result c.keep.new.kept refl c.in-Err.ensures.untaken c.keep.ensures)
