use Rattle.std.proofs.Common.{ap, arith, ◌∙◌}
use Rattle.feed.specs.Left.{count_within}
use Rattle.feed.proofs.Fitting.{left_short}
use Rattle.feed.proofs.room.count_first.Goals as goal

pub returns-then-count-all-clause-count : goal.returns-then-count-all-clause-count
returns-then-count-all-clause-count c =
    left_short c.args.store.now c.args.live.now c.args.closed c.args.chunk c.args.max c.args.bytes c.count_within-count.result c.in_ok-messages.field-0 c.in_ok-messages.ensures c.requires.within
    (c.count_within-count.ensures ∙ ap (count_within c.args.bytes) c.as_slice.ensures.value) (omega (arith, c.if-count-all.true, c.len-all.ensures))
