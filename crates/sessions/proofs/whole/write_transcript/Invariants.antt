use Rattle.std.proofs.Common.{◌++◌, drop, Ok}
use Rattle.script.specs.Transcripts.{events_text, transcript_text}
use Rattle.sessions.specs.Devices.{pending_of, HasWritten}
use Rattle.sessions.proofs.whole.write_transcript.Given as goal

abbrev pub invariant-loop-event : goal.invariant-loop-event
invariant-loop-event g l = HasWritten (g.K.Sink.writes l.initial.sink) (g.K.Sink.writes l.sink) (transcript_text l.fn.format l.events) (pending_of l.output ++ events_text (drop l.event-index l.events)) (Ok tt)
