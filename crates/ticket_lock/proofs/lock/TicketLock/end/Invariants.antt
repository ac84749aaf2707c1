use Rattle.std.proofs.Common.{[], ◌∷◌}
use Rattle.ticket_lock.proofs.lock.TicketLock.end.Given as goal

abbrev pub ghosts-release : goal.ghosts-release
ghosts-release g a = record { entries = a.entry.now ∷ [] }
