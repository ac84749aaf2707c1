use Rattle.std.proofs.Common.{◌≡◌, ◌++◌}
use Rattle.replica.proofs.index.copies.Given as goal

abbrev pub invariant-loop-key : goal.invariant-loop-key
invariant-loop-key l = l.copies.items ++ l.key-iterator ≡ l.fn.keys.keys
