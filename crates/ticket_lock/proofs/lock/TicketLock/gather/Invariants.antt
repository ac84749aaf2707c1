use Rattle.std.proofs.Common.{◌≡◌, List, ◌++◌, [], length, map}
use Rattle.ticket_lock.specs.Views.{gatherer}
use Rattle.ticket_lock.specs.Seats.{record_of}
use Rattle.ticket_lock.proofs.lock.TicketLock.gather.Given as goal

abbrev pub invariant-loop-seat : goal.invariant-loop-seat
invariant-loop-seat g l = (l.all.table_id ≡ l.self.board.shared.table_id) × ((rest : List _) × (l.initial.seats.items ≡ l.seats.items ++ rest) × (l.all.me ≡ (gatherer (map record_of rest), [])))

abbrev pub decreases-loop-seat : goal.decreases-loop-seat
decreases-loop-seat g l = length l.seats.items
