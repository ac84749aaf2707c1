use Rattle.timestamps.specs.Passes.{IsOf}
use Rattle.session_tests.proofs.tests.leases.put_session.Given as goal

abbrev pub invariant-loop-turn : goal.invariant-loop-turn
invariant-loop-turn l = IsOf l.db.oracle l.pass
