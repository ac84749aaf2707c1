use Rattle.std.proofs.Common.{◌≡◌, ◌-◌, [], length}
use Rattle.ticket_lock.specs.Views.{issuer}
use Rattle.ticket_lock.specs.Lists.{span}
use Rattle.ticket_lock.specs.Seats.{AllNew}
use Rattle.ticket_lock.proofs.lock.TicketLock.issue_all.Given as goal

abbrev pub invariant-loop-number : goal.invariant-loop-number
invariant-loop-number g l =
    (l.source.table_id ≡ l.self.board.shared.table_id) × (l.source.me ≡ (issuer l.self.first (span l.number (l.self.count - l.number)), [])) × (length l.issued.items ≡ l.number) × AllNew l.self l.issued.items
