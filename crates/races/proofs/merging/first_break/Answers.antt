use Rattle.std.proofs.Common.{◌≡◌, ◌+◌, ◌<◌, sym, ap, ◌∙◌, subst, arith}
use Rattle.races.specs.Merging.{position_of, Breaks}
use Rattle.races.proofs.Breaking.{rises, goes_on, breaks}
use Rattle.races.proofs.merging.first_break.Goals as goal

pub returns-then-here-before-clause-some : goal.returns-then-here-before-clause-some
returns-then-here-before-clause-some c = let events = c.args.events.now in let at = c.loop-at.at in let e = c.index-events-at in let f = c.index-events-at-in-loop-at in
    let same : f.result.position ≡ e.result.position = ap position_of f.is ∙ (c.if-here-before.true ∙ sym (ap position_of e.is)) in
    subst (Breaks (λ before here. here ≡ before) events) (ap position_of f.is) (breaks (λ before here. here ≡ before) events at e.result f.result c.loop-at.auto.at c.loop-at-test.true e.is f.is same c.loop-at.invariant)

pub overflow_sub-here : goal.overflow_sub-here
overflow_sub-here c = let e = c.index-events-at in let f = c.index-events-at-in-loop-at in
    omega (arith, rises c.args.events.now c.loop-at.at e.result f.result c.loop-at.auto.at c.loop-at-test.true e.is f.is c.requires.rising, ap position_of e.is, ap position_of f.is, c.if-here-before.false)

pub returns-then-here-before-2-clause-some : goal.returns-then-here-before-2-clause-some
returns-then-here-before-2-clause-some c = let events = c.args.events.now in let at = c.loop-at.at in let e = c.index-events-at in let f = c.index-events-at-in-loop-at in
    let up = rises events at e.result f.result c.loop-at.auto.at c.loop-at-test.true e.is f.is c.requires.rising in
    subst (Breaks (λ before here. before + 1 < here) events) (ap position_of f.is) (breaks (λ before here. before + 1 < here) events at e.result f.result c.loop-at.auto.at c.loop-at-test.true e.is f.is
    (omega (arith, up, ap position_of e.is, ap position_of f.is, c.if-here-before.false, c.if-here-before-2.true)) c.loop-at.invariant)

pub loop-at-preserved : goal.loop-at-preserved
loop-at-preserved c = let events = c.args.events.now in let at = c.loop-at.at in let e = c.index-events-at in let f = c.index-events-at-in-loop-at in
    let up = rises events at e.result f.result c.loop-at.auto.at c.loop-at-test.true e.is f.is c.requires.rising in
    goes_on events at e.result f.result c.loop-at.auto.at c.loop-at-test.true e.is f.is (omega (arith, up, ap position_of e.is, ap position_of f.is, c.if-here-before.false, c.if-here-before-2.false)) c.loop-at.invariant
