use Rattle.std.proofs.Common.{[], ap, arith, inl, length, refl, subst, sym, ◌≡◌, ◌≤◌, ◌∙◌}
use Rattle.std.specs.Prelude.{IfSome}
use Rattle.mvto_rules.proofs.Common.{AreDroppedAt, MAX}
use Rattle.mvto_rules.proofs.Closing.{IsTakingBack, taken_in_range, taking_begins, taking_ends, taking_goes_on}
use Rattle.mvto_rules.proofs.forgetting.take_back_through.Goals as goal

pub unwrap-ts-requires : goal.unwrap-ts-requires
unwrap-ts-requires c =
    let taking = subst (IsTakingBack c.args.store.now c.loop-ts.store c.args.txns.now c.args.to) c.in-Some.ensures.steps c.loop-ts.invariant.taking in
    let range = taken_in_range c.args.txns.now c.args.to c.in-Some.ts.now c.requires.in_range (taking.part c.in-Some.ts.now (inl refl)) in
    c.new.ensures.in_range.1 (subst (λ n. (1 ≤ n) × (n ≤ MAX)) (sym c.ts.view_is) range)

pub overflow_add-count : goal.overflow_add-count
overflow_add-count c = omega (arith, c.loop-ts.invariant.counted, ap length c.in-Some.ensures.steps, ap length c.into_iter-ts-iterator.ensures.into_iter_gives, c.undecided_through-ts-items.ensures.fits)

pub loop-ts-init : goal.loop-ts-init
loop-ts-init c = record {
  taking = subst (IsTakingBack c.args.store.now c.args.store.now c.args.txns.now c.args.to) (sym c.into_iter-ts-iterator.ensures.into_iter_gives) (taking_begins c.args.store.now c.args.txns.now c.args.to c.undecided_through-ts-items.result c.undecided_through-ts-items.ensures.those);
  marks = λ x j. refl;
  counted = omega arith;
}

pub loop-ts-preserved : goal.loop-ts-preserved
loop-ts-preserved c =
    let taking = subst (IsTakingBack c.args.store.now c.loop-ts.store c.args.txns.now c.args.to) c.in-Some.ensures.steps c.loop-ts.invariant.taking in
    let named : c.unwrap-ts.result ≡ c.in-Some.ts.now = subst (λ o. IfSome o (λ t. t ≡ c.ts.inside.0)) c.unwrap-ts.ensures c.new.ensures.number ∙ c.ts.view_is in
    let aborted = subst (AreDroppedAt c.loop-ts.store c.abort.new.self) named c.abort.ensures.dropped in
    record {
      taking = taking_goes_on c.args.store.now c.loop-ts.store c.abort.new.self c.args.txns.now c.args.to c.in-Some.ts.now c.next.new.self taking aborted;
      marks = λ x j. c.abort.ensures.marks x j ∙ c.loop-ts.invariant.marks x j;
      counted = omega (arith, c.loop-ts.invariant.counted, ap length c.in-Some.ensures.steps);
    }

pub returns-clause-gone : goal.returns-clause-gone
returns-clause-gone c =
    let none : c.loop-ts.ts-iterator ≡ [] = c.in-None.ensures.steps.0 in
    taking_ends c.args.store.now c.loop-ts.store c.args.txns.now c.args.to (subst (IsTakingBack c.args.store.now c.loop-ts.store c.args.txns.now c.args.to) none c.loop-ts.invariant.taking)

pub returns-clause-count : goal.returns-clause-count
returns-clause-count c = record {
  cut = c.undecided_through-ts-items.result;
  those = c.undecided_through-ts-items.ensures.those;
  counted = omega (arith, c.loop-ts.invariant.counted, ap length c.in-None.ensures.steps.0, ap length c.into_iter-ts-iterator.ensures.into_iter_gives);
}
