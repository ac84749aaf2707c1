use Rattle.std.proofs.Common.{List, [], ℕ, drop, ◌++◌, ◌+◌, ◌∙◌, refl, subst}
use Rattle.sessions.proofs.Common.{err_from_is_err_and, event_text, events_text, transcript_text}
use Rattle.sessions.specs.declared.ending.ServeEnd.TheVariants as end
use Rattle.sessions.specs.Devices.{pending_of, HasTaken}
use Rattle.sessions.proofs.Transcripts.{cut_on, nothing_taken, one_kept, taken_before, taken_on}
use Rattle.sessions.proofs.whole.write_transcript.Goals as goal

pub returns-in_err-output : goal.returns-in_err-output
returns-in_err-output g c =
    let text = transcript_text c.args.format c.args.events.now in
    let p = err_from_is_err_and c.from_residual.result c.from_residual.ensures.1 in
    rw (p.1, p.2) ((text, nothing_taken (g.K.Sink.writes c.args.sink.now).taken text), refl)

pub returns-in_err-keep : goal.returns-in_err-keep
returns-in_err-keep g c =
    let text = transcript_text c.args.format c.args.events.now in
    let p = err_from_is_err_and c.from_residual-in_err-keep.result c.from_residual-in_err-keep.ensures.1 in
    rw (p.1, p.2) ((text, nothing_taken (g.K.Sink.writes c.args.sink.now).taken text), refl)

pub returns-in_err-put_event : goal.returns-in_err-put_event
returns-in_err-put_event g c =
    let w = g.K.Sink.writes c.args.sink.now in let w' = g.K.Sink.writes c.loop-event.sink in let w'' = g.K.Sink.writes c.put_event.new.sink in
    let at = c.loop-event.event-index in let pending = pending_of c.loop-event.output ++ event_text c.event-item.result in
    let text = transcript_text c.args.format c.args.events.now in let more = events_text (drop (at + 1) c.args.events.now) in
    let i = c.loop-event.invariant in
    let kept = subst (HasTaken w.taken w'.taken text) (one_kept c.args.events.now at c.event-item.result (pending_of c.loop-event.output) pending c.loop-event-test.true c.event-item.is refl) i.0 in
    let p = err_from_is_err_and c.from_residual-in_err-put_event.result c.from_residual-in_err-put_event.ensures.1 in
    rw (p.1, p.2) (cut_on w w' w'' text pending (pending_of c.put_event.new.self) more c.in_err-put_event.field-0.0 kept i.1 c.in_err-put_event.ensures.put)

pub loop-event-preserved : goal.loop-event-preserved
loop-event-preserved g c =
    let w = g.K.Sink.writes c.args.sink.now in let w' = g.K.Sink.writes c.loop-event.sink in let w'' = g.K.Sink.writes c.put_event.new.sink in
    let at = c.loop-event.event-index in let pending = pending_of c.loop-event.output ++ event_text c.event-item.result in let rest = pending_of c.put_event.new.self in
    let text = transcript_text c.args.format c.args.events.now in let more = events_text (drop (at + 1) c.args.events.now) in
    let i = c.loop-event.invariant in let h = c.in_ok-put_event.ensures.put in
    let kept = subst (HasTaken w.taken w'.taken text) (one_kept c.args.events.now at c.event-item.result (pending_of c.loop-event.output) pending c.loop-event-test.true c.event-item.is refl) i.0 in
    (taken_on w.taken w'.taken w''.taken text (pending ++ more) (rest ++ more) kept (taken_before w'.taken w''.taken pending rest more h.0), h.1 ∙ i.1)

pub returns-in_err-write_out : goal.returns-in_err-write_out
returns-in_err-write_out g c =
    let w = g.K.Sink.writes c.args.sink.now in let w' = g.K.Sink.writes c.loop-event.sink in let w'' = g.K.Sink.writes c.write_out.new.sink in
    let text = transcript_text c.args.format c.args.events.now in let more : List ℕ = events_text (drop c.loop-event.event-index c.args.events.now) in
    let i = c.loop-event.invariant in
    let p = err_from_is_err_and c.from_residual-in_err-write_out.result c.from_residual-in_err-write_out.ensures.1 in
    rw (p.1, p.2) (cut_on w w' w'' text (pending_of c.loop-event.output) [] more end.Output i.0 i.1 c.in_err-write_out.ensures.written)
