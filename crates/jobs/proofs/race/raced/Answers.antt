use Rattle.std.proofs.Common.{rules}
use Rattle.sessions.specs.declared.ending.ServeEnd.TheVariants as run
use Rattle.jobs.specs.Prelude.{transcript_text}
use Rattle.jobs.specs.Races.{IsRace}
use Rattle.jobs.specs.declared.ending.End.TheVariants as ends
use Rattle.jobs.proofs.Common.{err_from_is_err_and}
use Rattle.jobs.proofs.Answering.{unwritten}
use Rattle.jobs.proofs.race.raced.Goals as goal

pub returns-in_err-write_transcript-in-Ok-race_calls : goal.returns-in_err-write_transcript-in-Ok-race_calls
returns-in_err-write_transcript-in-Ok-race_calls g c =
    let r = g.S.Source.reads c.args.input.now in
    let t = c.in_ok-text.ensures in
    let p = err_from_is_err_and c.from_residual-in_err-write_transcript-in-Ok-race_calls.result c.from_residual-in_err-write_transcript-in-Ok-race_calls.ensures.1 in
    let right : IsRace c.args.options c.in_ok-text.text.items ends.Done (transcript_text c.args.options.format c.as_slice-in-Ok-race_calls.result.now) = search rules in
    rw (p.1, p.2) (unwritten (IsRace c.args.options) r (g.S.Source.reads c.read_whole.new.source) (g.K.Sink.writes c.args.output.now) (g.K.Sink.writes c.write_transcript.new.sink) c.in_ok-text.text.items
    ends.Done (transcript_text c.args.options.format c.as_slice-in-Ok-race_calls.result.now) c.in_err-write_transcript-in-Ok-race_calls.field-0.0 t.0 t.1 t.2 right c.in_err-write_transcript-in-Ok-race_calls.ensures)

pub returns-in_err-write_whole-in-Err-Fault : goal.returns-in_err-write_whole-in-Err-Fault
returns-in_err-write_whole-in-Err-Fault g c =
    let r = g.S.Source.reads c.args.input.now in
    let t = c.in_ok-text.ensures in
    let p = err_from_is_err_and c.from_residual-in_err-write_whole-in-Err-Fault.result c.from_residual-in_err-write_whole-in-Err-Fault.ensures.1 in
    let end = ends.Faulty c.in-Err-Fault.line c.in-Err-Fault.fault in
    let right : IsRace c.args.options c.in_ok-text.text.items end c.as_slice-in-Err-Fault.result.now = search rules in
    rw (p.1, p.2) (unwritten (IsRace c.args.options) r (g.S.Source.reads c.read_whole.new.source) (g.K.Sink.writes c.args.output.now) (g.K.Sink.writes c.write_whole.new.sink) c.in_ok-text.text.items
    end c.as_slice-in-Err-Fault.result.now run.Output t.0 t.1 t.2 right c.in_err-write_whole-in-Err-Fault.ensures)
