use Rattle.std.proofs.Common.{filter, sym, ◌∙◌, ap, subst, rules}
use Rattle.plain_database.proofs.Common.{in_span, keys_of}
use Rattle.plain_database.specs.Replies.{AreAhead}
use Rattle.plain_database.proofs.KeysIn.{step_inside, step_past}
use Rattle.plain_database.proofs.versions.writers.KeysInIterator.next.Goals as goal

pub returns-then-not-is_below-clause-steps : goal.returns-then-not-is_below-clause-steps
returns-then-not-is_below-clause-steps c =
    let span = c.self.inside.span.now in
    let step = ap keys_of c.in_ok-key.ensures.steps in
    let past = step_past span c.in_ok-key.key.now (keys_of c.next.new.self) (subst (AreAhead span.lo) step c.self.invariant) (sym c.is_below.ensures ∙ c.if-not-is_below.true) in
    (sym c.self.view_is ∙ ap (filter (in_span span)) step ∙ past.0, past.1)

pub returns-clause-steps : goal.returns-clause-steps
returns-clause-steps c =
    let span = c.self.inside.span.now in
    let step = ap keys_of c.in_ok-key.ensures.steps in
    sym c.self.view_is ∙ ap (filter (in_span span)) step
    ∙ step_inside span c.in_ok-key.key.now (keys_of c.next.new.self) (subst (AreAhead span.lo) step c.self.invariant) c.bytes.ensures.in_range.1 (sym c.is_below.ensures ∙ c.if-not-is_below.false)

pub returns-clause-goes : goal.returns-clause-goes
returns-clause-goes c = let h = returns-clause-steps c in search (rules, h)
