use Rattle.std.proofs.Common.{[], ◌∷◌, length, ap, sym, ◌∙◌, append-nil}
use lib.ListN.{get_elem?}
use Rattle.ticket_lock.proofs.ListFacts.{at_middle}
use Rattle.session_tests.proofs.Longer.{at_longer}
use Rattle.session_tests.proofs.tests.counter.last.Goals as goal

pub returns-clause-new : goal.returns-clause-new
returns-clause-new g c = λ k s e. c.requires.new k s (ap (λ l. get_elem? l k) c.in-Some.ensures.items ∙ at_longer c.pop.new.self.items (c.in-Some.seat ∷ []) k s e)

pub returns-clause-own : goal.returns-clause-own
returns-clause-own g c = let items = c.args.seats.now.items in
    let a = c.requires.new (length c.pop.new.self.items) c.in-Some.seat (at_middle c.pop.new.self.items [] c.in-Some.seat items items (sym (append-nil items)) c.in-Some.ensures.items) in (record { table = a.table; first = ap (λ v. v.kept.first) a.view }, ap (λ v. v.ticket) a.view)

pub returns-clause-number : goal.returns-clause-number
returns-clause-number g c = let items = c.args.seats.now.items in
    (c.requires.new (length c.pop.new.self.items) c.in-Some.seat (at_middle c.pop.new.self.items [] c.in-Some.seat items items (sym (append-nil items)) c.in-Some.ensures.items)).number
