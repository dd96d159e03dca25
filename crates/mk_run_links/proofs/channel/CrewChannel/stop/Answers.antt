-- Answers to the goals of `channel::CrewChannel::stop` that the prover leaves.
use Rattle.std.proofs.Common.{ap, ◌∙◌, subst}
use Rattle.mk_plan.specs.declared.Call.TheVariants.{Stop}
use Rattle.mk_message.specs.Written.{call_text}
use Rattle.mk_frame.specs.Frames.{frame_of}
use Rattle.mk_run_laws.specs.Payloads.{IsFramed}
use Rattle.mk_run_laws.specs.Channels.{Channel}
use Rattle.mk_run_links.proofs.OnStops.{stops_channel}
use Rattle.mk_run_links.proofs.channel.CrewChannel.stop.Goals as goal

pub returns-clause-stopped : goal.returns-clause-stopped
returns-clause-stopped g c =
    let f = c.flush.ensures.flushed in
    (f.0, f.1, stops_channel c.args.self.now c.as_slice.result.now _ f.0 f.2 (c.as_slice.ensures.value ∙ c.stop_frame-frame.ensures.frame ∙ ap (λ (w : Channel). frame_of (call_text w.next Stop)) c.self.view_is) (subst (λ (w : Channel). IsFramed (call_text w.next Stop)) c.self.view_is c.stop_frame-frame.ensures.framed))
