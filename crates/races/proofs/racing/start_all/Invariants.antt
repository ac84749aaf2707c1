use Rattle.std.proofs.Common.{◌≡◌, ◌+◌, ◌++◌, map, All, vec_len}
use Rattle.races.proofs.Common.{IsOf, into_iter_items, into_iter_len}
use Rattle.races.specs.Racing.{IsIdle}
use Rattle.races.proofs.racing.start_all.Given as goal

abbrev pub invariant-loop-seat : goal.invariant-loop-seat
invariant-loop-seat g l =
    let rest = l.seat-iterator in let first = l.initial.seat-iterator in
    (map (λ h. h.promise.seat.value) l.handles.items ++ into_iter_items rest ≡ into_iter_items first)
    × (map (λ h. h.promise.commands.value) l.handles.items ++ into_iter_items l.others ≡ into_iter_items l.initial.others)
    × All (λ h. h.promise.db.value ≡ l.db) l.handles.items
    × All (IsOf l.db) (into_iter_items rest)
    × All IsIdle (into_iter_items rest)
    × (into_iter_len l.others ≡ into_iter_len rest)
    × (vec_len l.handles + into_iter_len rest ≡ into_iter_len first)
