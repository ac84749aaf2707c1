use Rattle.std.proofs.Common.{take}
use Rattle.races.specs.Merging.{IsUnbroken}
use Rattle.races.proofs.merging.first_break.Given as goal

abbrev pub invariant-loop-at : goal.invariant-loop-at
invariant-loop-at l = IsUnbroken (take l.at l.events)
