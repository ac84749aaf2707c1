use Rattle.std.specs.Prelude.{nat_lt}
use Rattle.mvto_rules.proofs.Common.{IsClosedAt, MAX, closed_in, is_committed_in, made_in, nat_tests, protections_in, version_in}
use Rattle.mvto_rules.proofs.Noting.{same_marks}
use Rattle.std.proofs.Common.{ap, arith, ◌&&◌, rules, subst, sym, ◌≤◌, ◌∙◌}
use Rattle.mvto_rules.specs.Holding.{AreMarksForgotten, holding}
use Rattle.mvto_rules.proofs.Closing.{closed_so, hard_closed, hard_done, hard_outside}
use Rattle.mvto_rules.proofs.rules.Rules.close_hard.Goals as goal

pub returns-then-to-gt-MAX-clause-step : goal.returns-then-to-gt-MAX-clause-step
returns-then-to-gt-MAX-clause-step c = λ seat k. hard_outside (holding k c.args.self.now) seat c.args.to (omega arith)

pub returns-clause-step : goal.returns-clause-step
returns-clause-step c = λ seat k.
    let r = c.args.self.now in let now = c.close_hard-at.new.self in let at = c.close_hard-at.ensures in
    let cut = c.take_back_through-aborted.ensures.count in let gone = c.take_back_through-aborted.ensures.gone in
    let versions = version_in c.take_back_through-aborted.new.store in let committed = is_committed_in c.take_back_through-aborted.new.store in
    let low : c.args.to ≤ MAX = first_of (omega arith, grind (arith, nat_tests), search rules) in
    hard_done (holding k r) (holding k c.forget_closed.new.self) seat c.args.to c.close_hard-at.result c.take_back_through-aborted.result cut.cut low cut.those cut.counted (at.answer ∙ at.closed)
    (hard_closed (holding k r) (holding k c.forget_closed.new.self) versions committed c.args.to c.close_hard-at.result gone.version gone.committed
    (closed_so (record (holding k r) { version = versions; committed = committed }) (holding k c.forget_closed.new.self) (closed_in r.closing) (closed_in now) c.close_hard-at.result (protections_in now) (protections_in r.closing) (made_in now) (made_in r.closing) (sym at.answer) at.protections at.made
    (subst (λ m. IsClosedAt (record (holding k r) { version = versions; committed = committed; marked = m; closed = closed_in r.closing; protections = protections_in now; protections_made = made_in now }) (holding k c.forget_closed.new.self) (closed_in now)) (same_marks r.store c.take_back_through-aborted.new.store c.take_back_through-aborted.ensures.marks)
    (c.forget_closed.ensures.closed (closed_in r.closing) k))))

pub returns-clause-marks : goal.returns-clause-marks
returns-clause-marks c = λ low. subst (AreMarksForgotten c.args.self.now c.forget_closed.new.self) (ap closed_in (sym c.forget_closed.ensures.closing))
    (λ x j. c.forget_closed.ensures.marks x j ∙ ap (λ b. nat_lt (closed_in c.close_hard-at.new.self) j && b) (c.take_back_through-aborted.ensures.marks x j))
