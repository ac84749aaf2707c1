use Rattle.std.proofs.Common.{◌≡◌, ◌<◌, All, length, vec_len}
use Rattle.std.specs.Vec.Iter.{into_iter_items, into_iter_len}
use Rattle.races.proofs.Giving.{AreLeft}
use Rattle.races.proofs.calls.lists_of.Given as goal

abbrev pub invariant-loop-session : goal.invariant-loop-session
invariant-loop-session l =
    let rest = into_iter_items l.session-iterator in
    (vec_len l.lists ≡ l.fn.sessions)
    × AreLeft (into_iter_items l.initial.session-iterator) rest l.lists.items
    × All (λ call. call.0 < l.fn.sessions) rest
    × (into_iter_len l.session-iterator ≡ length rest)
