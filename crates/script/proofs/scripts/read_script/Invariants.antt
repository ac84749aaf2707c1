use Rattle.std.proofs.Common.{◌≡◌, [], length}
use Rattle.script.specs.EventLines.{lines_of}
use Rattle.script.specs.Scripts.{above, script_at}
use Rattle.script.proofs.ScriptLines.{script_from}
use Rattle.script.proofs.scripts.read_script.Given as goal

abbrev pub invariant-loop-line : goal.invariant-loop-line
invariant-loop-line l =
    (above l.calls.items (script_from l.format l.seats l.lines) ≡ script_at l.format l.seats l.text)
    × (l.calls.items ≡ [] → l.lines.lines ≡ lines_of l.text)

abbrev pub decreases-loop-line : goal.decreases-loop-line
decreases-loop-line l = length l.lines.lines
