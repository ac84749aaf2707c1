use Rattle.std.proofs.Common.{get_or, arith, subst, sym}
use Rattle.version_chain.specs.Versions.{DoRise}
use Rattle.version_chain.proofs.Places.{up_to}
use Rattle.version_chain.proofs.BinarySearch.{half_is_left}
use Rattle.version_chain.proofs.chain.Chain.place_above.Goals as goal

pub ts_at-read-requires : goal.ts_at-read-requires
ts_at-read-requires c = omega arith

pub loop-left-preserved : goal.loop-left-preserved
loop-left-preserved c = record {
  within = omega arith;
  left = λ d. c.after-left.ensures.left (λ k. (get_or c.args.self.now k d).ts) _
      (λ i j le lt. up_to c.args.self.now i j d (subst DoRise c.self.view_is c.self.invariant) le lt)
      (rw (← c.middle.ensures) (sym (c.ts_at-read.ensures.ts d)))
      (c.loop-left.invariant.left d);
  steps = λ d lt. rw c.ts_at-read.ensures.steps (half_is_left _ _ _ _ _ (omega arith) (omega arith) (c.loop-left.invariant.steps d lt));
}

pub returns-clause-place : goal.returns-clause-place
returns-clause-place c = record {
  within = omega arith;
  below = λ k d lt. (c.loop-left.invariant.left d).below k lt;
  above = λ k d at lt. (c.loop-left.invariant.left d).above k (omega arith) lt;
}
