use Rattle.std.proofs.Common.{◌≡◌, drop}
use Rattle.script.proofs.headings.skip.Given as goal

abbrev pub invariant-loop : goal.invariant-loop
invariant-loop l = l.words ≡ drop l.counter l.fn.words
