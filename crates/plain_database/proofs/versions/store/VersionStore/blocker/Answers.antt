use Rattle.plain_database.proofs.SpanScans.{blockers_listed}
use Rattle.plain_database.proofs.versions.store.VersionStore.blocker.Goals as goal

pub loop-key-init : goal.loop-key-init
loop-key-init c = λ p all tied. rw (c.into_iter-key-iterator.ensures.into_iter_gives, c.keys_in-key-items.ensures.those)
    (blockers_listed c.args.self.now c.self.inside.writers p (rw (← c.self.view_is) c.self.invariant) c.keys_in-key-items.ensures.rising tied c.args.span.now c.args.ts)
