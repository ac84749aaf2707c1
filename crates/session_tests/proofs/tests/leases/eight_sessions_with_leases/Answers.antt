use lib.ListN.{get_or}
use Rattle.races.proofs.Shares.{elem_at, new_own, new_idle}
use Rattle.session_tests.proofs.tests.leases.eight_sessions_with_leases.Goals as goal

pub race-requires-clause-own : goal.race-requires-clause-own
race-requires-clause-own g c κs = new_own c.in_ok-db.db c.in_ok-db.seats.items c.in_ok-db.ensures.ok.new_seats

pub race-requires-clause-idle : goal.race-requires-clause-idle
race-requires-clause-idle g c κs = new_idle c.in_ok-db.db c.in_ok-db.seats.items c.in_ok-db.ensures.ok.new_seats

pub settle-requires-clause-own : goal.settle-requires-clause-own
settle-requires-clause-own g c k d lt =
    let all = c.in_ok-ended.ended.items in
    (c.in_ok-ended.ensures.ended.each k (get_or all k d) (elem_at all k d lt)).played.own
