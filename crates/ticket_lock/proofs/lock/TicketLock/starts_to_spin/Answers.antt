use Rattle.std.proofs.Common.{rules, arith}
use Rattle.ticket_lock.proofs.Sleeping.{marks_bed}
use Rattle.ticket_lock.proofs.lock.TicketLock.starts_to_spin.Goals as goal

pub swap-requires : goal.swap-requires
swap-requires g c = (search rules, search rules, marks_bed _ _ _ _ _ _ _ _ _ (omega arith))
