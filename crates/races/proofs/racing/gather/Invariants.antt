use Rattle.std.proofs.Common.{◌≡◌, ◌++◌, map, Ok}
use Rattle.std.specs.Vec.Iter.{into_iter_items}
use Rattle.races.proofs.racing.gather.Given as goal

abbrev pub invariant-loop-result : goal.invariant-loop-result
invariant-loop-result l = map Ok l.all.items ++ into_iter_items l.result-iterator ≡ into_iter_items l.initial.result-iterator
