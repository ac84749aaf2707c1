use Rattle.std.proofs.Common.{rules, arith}
use Rattle.std.proofs.lemmas.Grind.{common_steps}
use Rattle.ticket_lock.proofs.ListFacts.{each_grown}
use Rattle.ticket_lock.specs.Seats.{IsNew}
use Rattle.ticket_lock.proofs.lock.TicketLock.issue_all.Goals as goal

pub loop-number-preserved : goal.loop-number-preserved
loop-number-preserved g c = let inv = c.loop-number.invariant in (
  search rules,
  c.issue.ensures.issuer.1,
  (first_of (search rules, grind (arith, common_steps))),
  each_grown (IsNew c.args.self.now) c.loop-number.issued.items c.push.new.self.items c.issue.result _ c.in_ok-push.ensures.items inv.2 inv.3 c.issue.ensures.seat,
)
