use Rattle.std.proofs.Common.{◌≡◌}
use Rattle.ticket_lock.specs.Views.{IsSamePass, looked, looking}
use Rattle.ticket_lock.proofs.lock.TicketLock.draw_served.Given as goal

abbrev pub invariant-loop : goal.invariant-loop
invariant-loop g l = IsSamePass l.initial.pass l.pass × (l.pass.me ≡ (looking (looked l.initial.pass.me.0 l.pass.me.0.loaded) l.pass.me.0.looks, l.initial.pass.me.1))
