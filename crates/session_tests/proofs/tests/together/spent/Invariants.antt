use Rattle.std.proofs.Common.{All}
use Rattle.session_tests.proofs.Common.{IsOf, into_iter_items}
use Rattle.session_tests.proofs.tests.together.spent.Given as goal

abbrev pub invariant-loop-one : goal.invariant-loop-one
invariant-loop-one g l = All (IsOf l.db) l.seats.items × All (λ e. IsOf l.db e.seat) (into_iter_items l.one-iterator)
