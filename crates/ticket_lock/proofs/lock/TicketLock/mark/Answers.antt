use Rattle.std.proofs.Common.{rules}
use Rattle.ticket_lock.proofs.Sleeping.{marks_bed}
use Rattle.ticket_lock.proofs.lock.TicketLock.mark.Goals as goal

pub store-requires : goal.store-requires
store-requires g c = (search rules, search rules, marks_bed _ _ _ _ _ _ _ _ _ c.requires.word.0)
