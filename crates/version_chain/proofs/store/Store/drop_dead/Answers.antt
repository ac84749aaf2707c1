use Rattle.std.proofs.Common.{◌≡◌, ℕ, List, None, cond, subst, sym}
use Rattle.version_chain.specs.Stores.{found_in, IsCountOf}
use Rattle.version_chain.specs.Dead.{is_dead_in}
use Rattle.version_chain.specs.Indexes.{IsIndexOf}
use Rattle.version_chain.specs.Records.{stored_of}
use Rattle.version_chain.proofs.Soundness.{AreSettled, settled_max}
use Rattle.version_chain.proofs.Collecting.{all_gone, collected, thinned_all, thinned_next}
use Rattle.version_chain.proofs.store.Store.drop_dead.Goals as goal

pub loop-ts-preserved : goal.loop-ts-preserved
loop-ts-preserved c = thinned_next c.args.self.now c.loop-ts.self c.thin.new.self c.self-in-loop-ts.inside.index c.self.inside.dropped_through c.loop-ts.after c.in-Some.ts c.args.horizon
    (subst (λ es. IsIndexOf es c.self-in-loop-ts.inside.index) c.self-in-loop-ts.view_is c.self-in-loop-ts.invariant.indexed) c.in-Some.ensures c.thin.ensures.thinned c.thin.ensures.settled c.loop-ts.invariant

-- nothing is dead by the horizon any more
none : (c : goal.After-self-1) → AreSettled (stored_of c.self-2.inside.chains) c.args.horizon
none c = subst (λ es. AreSettled es c.args.horizon) (sym c.self-2.view_is)
    (thinned_all c.args.self.now c.loop-ts.self c.self-in-loop-ts.inside.index c.self.inside.dropped_through c.loop-ts.after c.args.horizon (subst (λ es. IsIndexOf es c.self-in-loop-ts.inside.index) c.self-in-loop-ts.view_is c.self-in-loop-ts.invariant.indexed)
    c.in_default.ensures (subst (λ es. AreSettled es c.self.inside.dropped_through) c.self.view_is c.self.invariant.settled) c.loop-ts.invariant)

-- all that was dead is gone
left : (c : goal.After-self-1) → (y : List ℕ) (i : ℕ) → found_in (stored_of c.self-2.inside.chains) y i ≡ cond (is_dead_in c.args.self.now c.args.horizon y i) None (found_in c.args.self.now y i)
left c = subst (λ es. AreSettled es c.args.horizon → (y : List ℕ) (i : ℕ) → found_in es y i ≡ cond (is_dead_in c.args.self.now c.args.horizon y i) None (found_in c.args.self.now y i)) (sym c.self-2.view_is)
    (all_gone c.args.self.now c.loop-ts.self c.args.horizon c.loop-ts.invariant.partly) (none c)

pub overflow_sub-result : goal.overflow_sub-result
overflow_sub-result c = (collected c.args.self.now (stored_of c.self-2.inside.chains) c.args.horizon c.self.inside.count c.self-2.inside.count (left c) (subst (λ es. IsCountOf es c.self.inside.count) c.self.view_is c.self.invariant.counted) c.self-2.invariant.counted).0

pub invariant_of-self : goal.invariant_of-self
invariant_of-self c = record {
  counted = c.self-2.invariant.counted;
  indexed = c.self-2.invariant.indexed;
  filled = c.self-2.invariant.filled;
  settled = subst (AreSettled (stored_of c.self-2.inside.chains)) (sym c.max-self-inside.ensures) (settled_max (stored_of c.self-2.inside.chains) c.self-2.inside.dropped_through c.args.horizon c.self-2.invariant.settled (none c));
}

pub returns-clause-collected : goal.returns-clause-collected
returns-clause-collected c = (collected c.args.self.now (stored_of c.self-2.inside.chains) c.args.horizon c.self.inside.count c.self-2.inside.count (left c) (subst (λ es. IsCountOf es c.self.inside.count) c.self.view_is c.self.invariant.counted) c.self-2.invariant.counted).1
