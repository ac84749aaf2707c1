use Rattle.std.proofs.Common.{sym}
use Rattle.feed.proofs.Tying.{tied_taken}
use Rattle.feed.proofs.feeds.Feeds.cancel.Goals as goal

pub invariant_of-self-2 : goal.invariant_of-self-2
invariant_of-self-2 c = tied_taken c.self.inside.opened c.floor.result c.args.feed c.self.inside.live.entries c.swap_remove.new.self.entries c.self.inside.floors c.remove.new.self c.in-Some.live c.self.invariant (sym c.floor.ensures) (sym c.in-Some.ensures.value) c.remove.ensures.updates.0 c.in-Some.ensures.updates.0
