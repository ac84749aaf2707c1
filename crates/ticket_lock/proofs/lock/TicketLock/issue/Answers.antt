use Rattle.std.proofs.Common.{rules}
use Rattle.ticket_lock.proofs.Beginning.{issues_next, issued_next}
use Rattle.ticket_lock.proofs.lock.TicketLock.issue.Goals as goal

pub split_seat-pass-requires : goal.split_seat-pass-requires
split_seat-pass-requires g c = (search rules, search rules, issues_next _ _ _ _ c.args.self.now.first c.args.self.now.count _ _ c.args.number c.args.self.now.keyed c.requires.next.0 c.requires.next.1)

pub returns-clause-issuer : goal.returns-clause-issuer
returns-clause-issuer g c = (search rules, issued_next g.T.Chronicle.stands g.T.Chronicle.seat_of g.T.Chronicle.floor_of c.args.self.now.board.shared.key _ _ c.args.source.now.me _ c.args.number c.requires.next.0 c.requires.next.1 c.split_seat-pass.ensures.2)
