use Rattle.plain_database.proofs.SpanScans.{given_starts}
use Rattle.plain_database.proofs.versions.store.VersionStore.sources.Goals as goal

pub loop-key-init : goal.loop-key-init
loop-key-init c = rw (c.into_iter-key-iterator.ensures.into_iter_gives, c.keys_in-key-items.ensures.those, c.new-sources.ensures)
    (given_starts c.args.self.now c.self.inside.writers (rw (← c.self.view_is) c.self.invariant) c.args.span.now c.args.ts)
