use Rattle.std.proofs.Common.{rules, ap, ◌∙◌}
use Rattle.ticket_lock.proofs.Meeting.{reports, hears, compares}
use Rattle.ticket_lock.proofs.lock.TicketLock.tell.Goals as goal

pub split_seat-report-requires : goal.split_seat-report-requires
split_seat-report-requires g c = (search rules, search rules, reports _ _ _ _ _ _)

pub join_seat-requires : goal.join_seat-requires
join_seat-requires g c = (search rules, search rules, search rules, search rules, hears _ _ _ _ _ _ _ _ c.args.from.now.me.0.kept.seen c.args.from.now.me.0.kept.known (ap (λ m. m.0) c.split_seat-report.ensures.4))

pub load-requires : goal.load-requires
load-requires g c = (search rules, search rules, compares _ _ _ _ _ _ _ (ap (λ m. m.0.sits) c.join_seat.ensures.2 ∙ c.requires.sits))
