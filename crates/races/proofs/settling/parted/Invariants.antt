use Rattle.std.proofs.Common.{◌≡◌, ◌++◌, map}
use Rattle.std.specs.Vec.Iter.{into_iter_items}
use Rattle.races.proofs.settling.parted.Given as goal

abbrev pub invariant-loop-one : goal.invariant-loop-one
invariant-loop-one l =
    (l.seats.items ++ map (λ e. e.seat) (into_iter_items l.one-iterator) ≡ map (λ e. e.seat) (into_iter_items l.initial.one-iterator))
    × (l.lists.items ++ map (λ e. e.events) (into_iter_items l.one-iterator) ≡ map (λ e. e.events) (into_iter_items l.initial.one-iterator))
