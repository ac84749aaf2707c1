use Rattle.std.proofs.Common.{arith}
use Rattle.sessions.proofs.Making.{none_made}
use Rattle.sessions.proofs.callers.Callers.open.Goals as goal

pub returns-clause-made : goal.returns-clause-made
returns-clause-made c = let o = c.in_ok-db.ensures.ok in none_made c.in_ok-db.db c.in_ok-db.seats.items o.new_seats (let n = o.seat_total in let r = o.seats_in_range.0 in omega arith)
