use Rattle.std.proofs.Common.{rules, refl}
use Rattle.ticket_lock.proofs.Releasing.{releases_from}
use Rattle.ticket_lock.proofs.lock.TicketLock.release.Goals as goal

pub store-requires : goal.store-requires
store-requires g c = let r = c.requires in (
  search rules,
  search rules,
  releases_from g.T.Chronicle.stands g.T.Chronicle.seat_of g.T.Chronicle.floor_of _ _ _ c.args.pass.now.me c.exchange-empty.new.seat.me c.args.ticket _ g.J.EndsWith.entries c.args.entry.now c.args.value c.exchange-empty.ensures.3 r.seat.0 r.seat.1 r.seat.2 r.turn.1 r.turn.0
      r.turn.2 refl r.said r.names r.stands g.met.T.Chronicle.floor_rises r.high,
)
