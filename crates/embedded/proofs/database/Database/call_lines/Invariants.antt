use Rattle.std.proofs.Common.{◌-◌, ◌≤◌, List, length}
use Rattle.spans.specs.declared.calls.events.Event.{Event}
use Rattle.embedded.specs.Embedded.{StandsFor}
use Rattle.embedded.specs.Several.{Step}
use Rattle.embedded.proofs.TakingLines.{HaveTaken, NoneMissing}
use Rattle.embedded.proofs.database.Database.call_lines.Given as goal

abbrev pub invariant-loop-taken : goal.invariant-loop-taken
invariant-loop-taken l = record {
  bytes : l.taken.bytes ≤ length l.lines;
  room : l.taken.length ≤ length l.out;
  going : (h : List Event) → StandsFor l.initial.self h → (steps : List Step) × HaveTaken l.most h l.lines l.initial.self l.initial.out l.initial.notes steps l.taken l.out l.notes l.self × NoneMissing steps;
}

abbrev pub decreases-loop-taken : goal.decreases-loop-taken
decreases-loop-taken l = length l.initial.notes - l.taken.lines
