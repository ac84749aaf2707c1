use Rattle.std.proofs.Common.{sym, ◌∙◌, ap, subst, rules}
use Rattle.version_chain.specs.Stores.{AreAhead, numbered_in}
use Rattle.version_chain.proofs.InSpans.{step_inside, step_past}
use Rattle.version_chain.proofs.in_span.NumbersInIterator.next.Goals as goal

pub returns-then-not-is_below-clause-steps : goal.returns-then-not-is_below-clause-steps
returns-then-not-is_below-clause-steps c =
    let span = c.self.inside.span.now in
    let past = step_past span (c.in_ok-key.key.now, c.in_ok-key.number.now) c.next.new.self (subst (AreAhead span.lo) c.in_ok-key.ensures.steps c.self.invariant) (sym c.is_below.ensures.below ∙ c.if-not-is_below.true) in
    (sym c.self.view_is ∙ ap (numbered_in span) c.in_ok-key.ensures.steps ∙ past.0, past.1)

pub returns-clause-steps : goal.returns-clause-steps
returns-clause-steps c =
    let span = c.self.inside.span.now in
    sym c.self.view_is ∙ ap (numbered_in span) c.in_ok-key.ensures.steps
    ∙ step_inside span (c.in_ok-key.key.now, c.in_ok-key.number.now) c.next.new.self (subst (AreAhead span.lo) c.in_ok-key.ensures.steps c.self.invariant) c.is_below.ensures.in_range (sym c.is_below.ensures.below ∙ c.if-not-is_below.false)

pub returns-clause-goes : goal.returns-clause-goes
returns-clause-goes c = let h = returns-clause-steps c in search (rules, h)
