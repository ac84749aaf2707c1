use Rattle.std.proofs.Common.{◌≡◌}
use Rattle.std.specs.Prelude.{None}
use Rattle.ticket_lock.specs.Seats.{IsOf, ticket}
use Rattle.session_tests.proofs.tests.sleepers.follow.Given as goal

abbrev pub invariant-loop : goal.invariant-loop
invariant-loop g l = IsOf l.lock l.seat × (ticket l.seat ≡ None)
