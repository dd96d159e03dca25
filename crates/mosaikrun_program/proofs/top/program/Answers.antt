-- Answers to the goals of `top::program` that the prover leaves.
use Rattle.std.proofs.Common.{Ok, Err, arith, refl, sym, ◌∙◌, map, subst}
use Rattle.std.specs.String.{string_bytes}
use Rattle.mk_local.specs.Registries.{rows_in}
use Rattle.mosaikrun_run.specs.Outcomes.{outside}
use Rattle.mosaikrun_program.specs.Around.{Around, folder_seen, output_seen, rules_seen}
use Rattle.mosaikrun_program.specs.Program.{IsStatusOr}
use Rattle.mosaikrun_program.proofs.Answering.{keeps_others, said_ended, usage_only, useless_words}
use Rattle.mosaikrun_program.proofs.Deciding.{told_decided, told_no_file}
use Rattle.mosaikrun_program.proofs.Recording.{record_kept}
use Rattle.mosaikrun_program.proofs.Resuming.{new_record_kept}
use Rattle.mosaikrun_program.proofs.EndingRuns.{ends_run}
use Rattle.mosaikrun_program.proofs.EndingPaces.{ends_paced}
use Rattle.mosaikrun_program.proofs.EndingResumes.{ends_resume}
use Rattle.mosaikrun_program.proofs.Pacing.{pace_record_kept}
use Rattle.mosaikrun_program.proofs.RightCalls.{right_call}
use Rattle.mosaikrun_program.proofs.top.program.Goals as goal

pub returns-in-Ok : goal.returns-in-Ok
returns-in-Ok g c =
    let ended = c.in-Ok.ensures.ended in
    let S : Around = record {
      words = map string_bytes c.args.words.now;
      outside = outside g.F.Fleet.started g.F.Fleet.faults (rows_in c.args.kinds.now) c.args.fleet.now c.answer.new.fleet ended.0;
      rules = rules_seen c.args.rules.now;
      folder = folder_seen g.D.Folder.files g.D.Folder.faults c.args.folder.now c.answer.new.folder;
      output = output_seen g.K.Sink.written g.K.Sink.faults g.K.Sink.shortages c.args.out.now c.answer.new.out;
    } in
    record {
      headline = (ended.0, ended.1, right_call S (Ok tt) 0 refl ended.2);
      ended = (ended.0, ended.1, record { answer = Ok tt; is = refl; ended = ended.2; told = refl; recorded = record_kept S (Ok tt) 0 refl ended.2; resumed = new_record_kept S (Ok tt) 0 refl ended.2; paced = pace_record_kept S (Ok tt) 0 refl ended.2 });
      completes = (ended.0, ended.1, ends_run c.handshakes_complete.ensures S S.folder.files (Ok tt) 0 refl refl ended.2);
      resumes = (ended.0, ended.1, ends_resume c.handshakes_complete.ensures S S.folder.files (Ok tt) 0 refl refl ended.2);
      paces = (ended.0, ended.1, ends_paced c.handshakes_complete.ensures S S.folder.files (Ok tt) 0 refl refl ended.2);
      rising = c.in-Ok.ensures.rising;
      usage = λ two. usage_only S (Ok tt) ended.2 two;
      useless = useless_words S (Ok tt) ended.2;
      decided = told_decided S S.folder.files (Ok tt) 0 refl refl ended.2;
      unreadable = told_no_file S S.folder.files (Ok tt) 0 refl refl ended.2;
      others_kept = keeps_others S (Ok tt) ended.2;
      fleet_unused = c.in-Ok.ensures.fleet_unused;
      counts_and_links = record {
        folder_count = c.in-Ok.ensures.folder_count;
        fleet_count = c.in-Ok.ensures.fleet_count;
        out_count = c.in-Ok.ensures.out_count;
        err_count = omega (arith);
        links_closed = c.in-Ok.ensures.links_closed;
      };
    }

pub returns-in-Err : goal.returns-in-Err
returns-in-Err g c =
    let ended = c.in-Err.ensures.ended in
    let S : Around = record {
      words = map string_bytes c.args.words.now;
      outside = outside g.F.Fleet.started g.F.Fleet.faults (rows_in c.args.kinds.now) c.args.fleet.now c.answer.new.fleet ended.0;
      rules = rules_seen c.args.rules.now;
      folder = folder_seen g.D.Folder.files g.D.Folder.faults c.args.folder.now c.answer.new.folder;
      output = output_seen g.K.Sink.written g.K.Sink.faults g.K.Sink.shortages c.args.out.now c.answer.new.out;
    } in
    let told = c.tell-status.ensures.told in
    let said = said_ended S told.0 c.in-Err.ending ended.2 told.1 in
    record {
      headline = (ended.0, ended.1, right_call S (Err told.0) c.tell-status.result told.2 said);
      ended = (ended.0, ended.1, record { answer = Err told.0; is = told.2; ended = said; told = told.3; recorded = record_kept S (Err told.0) c.tell-status.result told.2 said; resumed = new_record_kept S (Err told.0) c.tell-status.result told.2 said; paced = pace_record_kept S (Err told.0) c.tell-status.result told.2 said });
      completes = (ended.0, ended.1, ends_run c.handshakes_complete.ensures S S.folder.files (Err told.0) c.tell-status.result refl told.2 said);
      resumes = (ended.0, ended.1, ends_resume c.handshakes_complete.ensures S S.folder.files (Err told.0) c.tell-status.result refl told.2 said);
      paces = (ended.0, ended.1, ends_paced c.handshakes_complete.ensures S S.folder.files (Err told.0) c.tell-status.result refl told.2 said);
      rising = c.in-Err.ensures.rising;
      usage = λ two. usage_only S (Err told.0) said (sym told.2 ∙ two);
      useless = λ none. subst (IsStatusOr 2) (sym told.2) (useless_words S (Err told.0) said none);
      decided = told_decided S S.folder.files (Err told.0) c.tell-status.result refl told.2 said;
      unreadable = told_no_file S S.folder.files (Err told.0) c.tell-status.result refl told.2 said;
      others_kept = keeps_others S (Err told.0) said;
      fleet_unused = c.in-Err.ensures.fleet_unused;
      counts_and_links = record {
        folder_count = c.in-Err.ensures.folder_count;
        fleet_count = c.in-Err.ensures.fleet_count;
        out_count = c.in-Err.ensures.out_count;
        err_count = c.tell-status.ensures.count;
        links_closed = c.in-Err.ensures.links_closed;
      };
    }
