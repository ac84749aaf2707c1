use Rattle.std.proofs.Common.{◌≡◌, ◌++◌}
use Rattle.std.specs.Vec.Iter.{into_iter_items}
use Rattle.races.specs.Merging.{events_of}
use Rattle.races.proofs.merging.joined.Given as goal

abbrev pub invariant-loop-list : goal.invariant-loop-list
invariant-loop-list l = l.all.items ++ events_of (into_iter_items l.list-iterator) ≡ events_of (into_iter_items l.initial.list-iterator)
