use Rattle.std.proofs.Common.{◌≡◌, ◌≤◌, ◌+◌, ◌++◌, vec_len}
use Rattle.std.specs.Prelude.{vec_capacity}
use Rattle.races.proofs.Common.{IsOf, IsSame, into_iter_items, into_iter_len, mine}
use Rattle.races.specs.Racing.{commands_of}
use Rattle.races.proofs.racing.play.Given as goal

abbrev pub invariant-loop-cmd : goal.invariant-loop-cmd
invariant-loop-cmd g l =
    let rest = l.cmd-iterator in let first = l.initial.cmd-iterator in
    (commands_of l.events.items ++ into_iter_items rest ≡ into_iter_items first)
    × (vec_len l.events + into_iter_len rest ≡ into_iter_len first)
    × (into_iter_len first ≤ vec_capacity l.events)
    × (l.call ≡ vec_len l.events)
    × (l.events.items ≡ mine l.seat)
    × IsOf l.db l.seat
    × IsSame l.fn.seat l.seat
