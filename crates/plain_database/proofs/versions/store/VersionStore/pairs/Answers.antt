use Rattle.std.proofs.Common.{ap, arith, take}
use Rattle.plain_database.proofs.SpanScans.{rows_listed}
use Rattle.plain_database.proofs.versions.store.VersionStore.pairs.Goals as goal

pub loop-key-init : goal.loop-key-init
loop-key-init c = record {
  few = rw c.new-pairs.ensures.items (omega arith);
  left = λ p all tied. rw (c.new-pairs.ensures.items, c.into_iter-key-iterator.ensures.into_iter_gives, c.keys_in-key-items.ensures.those)
      (ap (take c.args.max) (rows_listed c.args.self.now c.self.inside.writers p (rw (← c.self.view_is) c.self.invariant) c.keys_in-key-items.ensures.rising tied c.args.span.now c.in_ok-rest.rest _ c.args.ts c.in_ok-rest.ensures));
}
