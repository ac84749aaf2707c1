use Rattle.std.proofs.Common.{◌≡◌}
use Rattle.std.specs.Prelude.{None}
use Rattle.ticket_lock.specs.Seats.{IsOf, ticket}
use Rattle.session_tests.proofs.tests.turns.refused.Given as goal

abbrev pub invariant-loop-place : goal.invariant-loop-place
invariant-loop-place l = IsOf l.lock l.seat × (ticket l.seat ≡ None)
