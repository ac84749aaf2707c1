use Rattle.std.proofs.Common.{ap, arith, rules, subst, sym, ◌≤◌, ◌∙◌}
use Rattle.mvto_rules.proofs.Common.{MAX, closed_in, made_in, nat_tests, protections_in}
use Rattle.mvto_rules.specs.Holding.{AreMarksForgotten, holding}
use Rattle.mvto_rules.proofs.Closing.{close_done, close_outside, closed_so}
use Rattle.mvto_rules.proofs.rules.Rules.close.Goals as goal

pub returns-then-to-gt-MAX-clause-step : goal.returns-then-to-gt-MAX-clause-step
returns-then-to-gt-MAX-clause-step c = λ seat k. close_outside (holding k c.args.self.now) seat c.args.to (omega arith)

pub returns-clause-step : goal.returns-clause-step
returns-clause-step c = λ seat k.
    let r = c.args.self.now in let now = c.close-at.new.self in let at = c.close-at.ensures in
    let low : c.args.to ≤ MAX = first_of (omega arith, grind (arith, nat_tests), search rules) in
    close_done (holding k r) (holding k c.forget_closed.new.self) seat c.args.to c.close-at.result c.oldest_undecided-oldest.result low c.oldest_undecided-oldest.ensures (at.answer ∙ at.closed)
    (closed_so (holding k r) (holding k c.forget_closed.new.self) (closed_in r.closing) (closed_in now) c.close-at.result (protections_in now) (protections_in r.closing) (made_in now) (made_in r.closing) (sym at.answer) at.protections at.made
    (c.forget_closed.ensures.closed (closed_in r.closing) k))

pub returns-clause-marks : goal.returns-clause-marks
returns-clause-marks c = λ low. subst (AreMarksForgotten c.args.self.now c.forget_closed.new.self) (ap closed_in (sym c.forget_closed.ensures.closing)) c.forget_closed.ensures.marks
