use Rattle.std.proofs.Common.{get_or, arith}
use Rattle.read_marks.proofs.Common.{get_or_default, le-leb, lt-leb}
use Rattle.read_marks.proofs.readers.Readers.count_through.Goals as goal

pub loop-left-preserved : goal.loop-left-preserved
loop-left-preserved c = record {
  within = omega arith;
  left = λ d. c.after-left.ensures.left (λ k. get_or c.args.self.now.list.items k d) _
      (λ i j le lt. c.args.self.now.rising i j d le lt)
      (rw (← c.middle.ensures, c.as_slice-list.ensures) (get_or_default c.args.self.now.list.items c.middle.result d 0 (omega arith)))
      (c.loop-left.invariant.left d);
}

pub returns-clause-splits : goal.returns-clause-splits
returns-clause-splits c = (
  (λ k d low lt. le-leb _ _ ((c.loop-left.invariant.left d).below k lt)),
  (λ k d at lt. lt-leb _ _ ((c.loop-left.invariant.left d).above k (omega arith) lt)),
)
