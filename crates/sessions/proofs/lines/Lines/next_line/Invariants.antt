use Rattle.std.proofs.Common.{◌≡◌, ◌+◌, ◌-◌, cond, length, None, Ok}
use Rattle.text_format.specs.Limits.{line_limit}
use Rattle.sessions.specs.Waiting.{waiting, WantsMore, HasReadOn, IsNeeded}
use Rattle.sessions.specs.Devices.{pending_of, HasWritten}
use Rattle.sessions.proofs.lines.Lines.next_line.Given as goal

abbrev pub invariant-loop-output : goal.invariant-loop-output
invariant-loop-output g l =
    let r = g.S.Source.reads l.initial.source in
    let r' = g.S.Source.reads l.source in
    let w = g.K.Sink.writes l.initial.sink in
    let w' = g.K.Sink.writes l.sink in
    HasReadOn l.initial.self l.self r r'
    × (r'.failures ≡ r.failures)
    × HasWritten w w' (pending_of l.initial.output) (pending_of l.output) (Ok tt)
    × IsNeeded l.initial.self r r' w w' l.initial.output l.output (Ok None)
    × (WantsMore l.self → WantsMore l.initial.self)

-- each read that isn't the end gives a byte at least
abbrev pub decreases-loop-output : goal.decreases-loop-output
decreases-loop-output g l = cond l.self.ended 0 (line_limit l.self.format + 2 - length (waiting l.self))
